-- Theory: laws and theorems about the definitions. What is beside it serves the proofs of single functions.
pub mod Examples
pub mod FromCalls
pub mod HashLaws
pub mod KnownGuessLaws
pub mod LongInput
pub mod PooledLaws
pub mod PromiseExamples
pub mod ShownLaws
pub mod StaleLaws
