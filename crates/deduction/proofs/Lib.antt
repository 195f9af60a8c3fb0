-- Laws about the definitions:
pub mod Theory
-- Laws shaped for the proofs of single functions: what each store, each turn and each return gives.
pub mod BuildMemo
pub mod CallReturns
pub mod Clauses
pub mod Firing
pub mod KnowledgeMarks
pub mod MarkArrays
pub mod MarkOrder
pub mod OpeningKeys
pub mod RecordOpening
pub mod Working
