pub mod Words
pub mod Seed
pub mod Parts
pub mod OfProduct
pub mod Stands
