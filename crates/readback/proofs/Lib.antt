pub mod PageReturns
pub mod ReadReturns
pub mod Theory
