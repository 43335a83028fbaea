pub mod OctalDigits
pub mod TextSteps
