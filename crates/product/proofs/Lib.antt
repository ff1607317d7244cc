pub mod Digits
pub mod Seeds
pub mod Entries
