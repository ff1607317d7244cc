pub mod Cut
pub mod Crossing
pub mod Laid
