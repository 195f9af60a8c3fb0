-- Theory: laws and theorems about the definitions. What is beside it serves the proofs of single functions.
pub mod KnownPremises
pub mod LargerTables
pub mod RegisterTerms
pub mod StepMeaning
