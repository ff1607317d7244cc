pub mod Peeling
pub mod Running
