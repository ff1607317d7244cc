pub mod Positions
pub mod Digits
