pub mod RuleTexts
pub mod Attributes
pub mod Fitting
pub mod FileFitting
pub mod FittingRows
