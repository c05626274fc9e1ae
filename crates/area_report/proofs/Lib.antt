pub mod StepTexts
pub mod RunSteps
pub mod RunTexts
pub mod Totals
pub mod FitsSteps
pub mod Egos
pub mod LastSteps
