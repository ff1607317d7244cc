pub mod Table
pub mod Inserted
pub mod Holds
pub mod Calls
