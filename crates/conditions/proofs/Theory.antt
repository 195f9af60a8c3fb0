-- Theory: laws and theorems about the definitions. What is beside it serves the proofs of single functions.
pub mod Acceptance
pub mod ConditionsMeant
pub mod KnownGuess
pub mod ProgramRun
pub mod Promise
pub mod Refusal
pub mod Signal
pub mod WrongGuesses
