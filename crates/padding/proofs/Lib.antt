pub mod DigitSteps
pub mod PrefixCases
