pub mod ClaimTests
pub mod ContentsTests
pub mod InverseTests
pub mod PassedChecks
pub mod RecordLookup
pub mod TermTests
pub mod Theory
