-- What the proofs of this crate, and of the crates above it, cite.
pub mod Walks
pub mod Lists
pub mod Books
pub mod OneAnswer
