pub mod States
pub mod Taken
pub mod Known
pub mod Starts
pub mod Reviews
