pub mod Rows
pub mod Refusals
pub mod Answering
