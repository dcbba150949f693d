pub mod Lengths
pub mod PortLoop
pub mod Parts
pub mod Reviewing
pub mod Answers
pub mod Unique
pub mod Fits
