pub mod Evidence
pub mod NewChains
pub mod Records
pub mod Renewals
pub mod Stated
pub mod TreeRenewals
pub mod Trees
pub mod Under
