-- Theory: laws and theorems about the definitions. What is beside it serves the proofs of single functions.
pub mod InstructionResult
pub mod KeyNodes
pub mod ListedRegisters
pub mod MarkedParts
pub mod NodeRecords
pub mod NodeReductions
pub mod NodeSearch
pub mod RunAnswer
pub mod RunLoop
pub mod RunRegisters
pub mod StaleNames
pub mod StaleSearch
pub mod StartState
pub mod StateGrowth
pub mod StateMeaning
