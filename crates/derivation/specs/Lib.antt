pub mod Code
pub mod Register
pub mod Step
