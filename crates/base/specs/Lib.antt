pub mod Answer
pub mod Code
pub mod Computed
pub mod Words
