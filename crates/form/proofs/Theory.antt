-- Theory: laws and theorems about the definitions. What is beside it serves the proofs of single functions.
pub mod Examples
pub mod RoundTrip
pub mod SameBodies
pub mod WritableBodies
pub mod WriteAnswer
