pub mod Slots
pub mod Build
