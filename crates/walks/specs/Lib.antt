pub mod Packets
pub mod Walks
pub mod Lists
