pub mod Bits
pub mod Lists
pub mod Sets
pub mod Numbers
pub mod Marks
pub mod Any
pub mod Sizes
