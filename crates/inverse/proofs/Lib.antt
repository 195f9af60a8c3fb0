pub mod CallReturns
pub mod KeyChains
pub mod NotedInverses
pub mod Theory
