pub mod Counting
pub mod Capped
