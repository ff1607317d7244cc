pub mod Made
pub mod Looked
pub mod Promised
