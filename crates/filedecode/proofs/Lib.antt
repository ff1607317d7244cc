mod Accepted
pub mod Lined
