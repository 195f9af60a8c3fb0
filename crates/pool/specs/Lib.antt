pub mod Calls
pub mod Code
pub mod Computed
pub mod Pool
pub mod Promise
