-- Theory: laws and theorems about the definitions. What is beside it serves the proofs of single functions.
pub mod Examples
pub mod JoinAnswer
pub mod MappedRecord
pub mod PoolBodies
pub mod PoolBytes
pub mod PoolKnowledge
pub mod PoolLists
pub mod PoolNumbers
pub mod PoolPassed
pub mod PoolPromise
pub mod PoolRecords
pub mod PoolTable
