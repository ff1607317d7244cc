pub mod Finding
pub mod Turning
pub mod Solving
