pub mod Code
pub mod Computed
pub mod Number
pub mod Reduce
pub mod Step
pub mod Term
