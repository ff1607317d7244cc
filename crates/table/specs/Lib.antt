pub mod Columns
pub mod Held
pub mod OfTable
pub mod Stands
