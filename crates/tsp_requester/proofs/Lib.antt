pub mod AnsweringLaw
pub mod Deciding
pub mod AnsweringRows
mod Puts
mod Openings
mod Cutting
mod New
mod Imprint
mod Answered
mod OneRule
mod AttachingRows
mod ReadBack
