pub mod AnswersAsSeal
pub mod AsBox
pub mod Held
pub mod HeldTrees
pub mod Kept
pub mod Seals
pub mod TreeAsSeal
pub mod TrustAsSeal
