pub mod EncodingReturns
pub mod PrintingReturns
pub mod Theory
