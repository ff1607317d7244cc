pub mod Making
pub mod Printing
pub mod Questions
pub mod Reading
pub mod Words
