pub mod Restored
pub mod Greatest
