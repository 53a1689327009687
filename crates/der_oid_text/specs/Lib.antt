pub mod OidText
pub mod OidSteps
pub mod OidFaultTexts
