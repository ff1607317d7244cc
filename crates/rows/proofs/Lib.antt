pub mod Counting
pub mod Cuts
pub mod Growing
pub mod Laying
pub mod Marking
pub mod Named
