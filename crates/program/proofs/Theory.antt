-- Theory: laws and theorems about the definitions. What is beside it serves the proofs of single functions.
pub mod Bytes
pub mod Check13
pub mod Value
pub mod Writing
