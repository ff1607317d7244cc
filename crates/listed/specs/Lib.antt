pub mod Shares
pub mod Fault
pub mod OfListed
pub mod Sound
