pub mod Answered
pub mod Blocks
pub mod Product
pub mod Told
pub mod Listed
pub mod Turned
