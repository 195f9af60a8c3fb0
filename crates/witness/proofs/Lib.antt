pub mod CallReturns
pub mod ChoiceLaws
pub mod ShownSteps
pub mod StepsFrom
-- Laws about the definitions:
pub mod Theory
