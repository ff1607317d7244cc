pub mod Counted
pub mod Popped
