pub mod Found
pub mod PassedFacts
pub mod ProgramValue
pub mod Theory
