pub mod CallReturns
pub mod EntryReturns
pub mod MostLaws
pub mod PutLaws
pub mod TermReturns
pub mod Theory
