pub mod Lowest
pub mod Dangling
pub mod Shrinking
pub mod Passing
pub mod Turns
pub mod Staged
pub mod Numbered
