-- Theory: laws and theorems about the definitions. What is beside it serves the proofs of single functions.
pub mod Examples
pub mod OwnPage
pub mod ReadBackAnswer
pub mod ReplacedBodies
pub mod RoundTrip
pub mod SameSubmissions
