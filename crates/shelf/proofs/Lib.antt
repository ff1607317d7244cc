pub mod Stacks
pub mod Entries
pub mod Room
