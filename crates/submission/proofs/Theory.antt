-- Theory: laws and theorems about the definitions. What is beside it serves the proofs of single functions.
pub mod ContentsMeant
pub mod GoodRecord
pub mod Limits
pub mod ListedNumbers
pub mod ListedTerms
pub mod ReadingRows
pub mod StaleTests
