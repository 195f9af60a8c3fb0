pub mod Code
pub mod Computed
pub mod Run
