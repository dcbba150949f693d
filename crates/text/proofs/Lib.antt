pub mod Appends
pub mod Pushes
pub mod Unique
