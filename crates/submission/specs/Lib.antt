pub mod Body
pub mod Check
pub mod Code
pub mod Computed
pub mod Record
