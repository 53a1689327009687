pub mod Under
pub mod Given
pub mod UnderTexts
pub mod TokensUnder
pub mod UnderVerdicts
pub mod Laws
pub mod Rows
