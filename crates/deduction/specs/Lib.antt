pub mod Code
pub mod Computed
pub mod Deduce
pub mod Saturation
