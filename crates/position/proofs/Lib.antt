pub mod DigitWriting
pub mod FillSteps
pub mod OuterLoop
pub mod RunLaws
pub mod SequenceLaws
pub mod StepLaws
