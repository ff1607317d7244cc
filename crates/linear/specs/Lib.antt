pub mod Field
pub mod Basis
pub mod System
pub mod Three
pub mod Subsets
pub mod Compress
pub mod Theorems
