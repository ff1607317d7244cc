pub mod Decided
pub mod Ran
