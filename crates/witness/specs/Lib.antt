pub mod Calls
pub mod Code
pub mod Computed
pub mod Deduction
pub mod Promise
