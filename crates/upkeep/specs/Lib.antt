pub mod Changed
pub mod Counts
pub mod Statuses
pub mod Fault
pub mod Rows
