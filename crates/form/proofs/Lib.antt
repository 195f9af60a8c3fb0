pub mod ContentsReturns
pub mod OwnBodies
pub mod WriteReturns
pub mod Theory
