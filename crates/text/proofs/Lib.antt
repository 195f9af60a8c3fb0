pub mod LineReturns
pub mod Theory
