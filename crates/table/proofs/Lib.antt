pub mod Crossed
pub mod Told
pub mod Held
pub mod Limits
pub mod Steps
