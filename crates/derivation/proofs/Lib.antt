pub mod KindTests
pub mod RegistersHeld
pub mod StepReturns
pub mod StepShapeTests
pub mod Theory
