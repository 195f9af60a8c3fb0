pub mod Calls
pub mod Code
pub mod Computed
pub mod Promise
pub mod ReadBack
