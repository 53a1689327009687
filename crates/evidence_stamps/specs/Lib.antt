pub mod StateValue
pub mod MayLast
pub mod PlaceValues
pub mod FitSteps
