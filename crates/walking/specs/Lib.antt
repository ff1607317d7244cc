pub mod Seen
pub mod Waiting
pub mod Steps
pub mod Scenes
pub mod Found
pub mod Walked
