pub mod Meaning
pub mod Telling
pub mod Product
pub mod Listed
pub mod Codes
