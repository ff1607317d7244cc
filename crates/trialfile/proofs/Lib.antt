pub mod Each
pub mod Accepted
pub mod Within
pub mod Faulted
