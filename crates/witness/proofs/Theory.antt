-- Theory: laws and theorems about the definitions.
pub mod DeductionAnswer
pub mod DeductionLaws
pub mod Examples
pub mod WrittenDeduction
