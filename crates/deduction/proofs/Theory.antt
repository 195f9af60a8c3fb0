-- Theory: laws and theorems about the definitions. What is beside it serves the proofs of single functions.
pub mod BuildTestLaws
pub mod DeducibleAnswer
pub mod Exactness
