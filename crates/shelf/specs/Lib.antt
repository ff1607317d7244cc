pub mod Shelving
pub mod Stacked
pub mod Lent
