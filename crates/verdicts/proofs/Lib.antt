-- What the proofs of this crate, and of the crates above it, cite.
pub mod Laws
pub mod Entries
pub mod Unique
pub mod Promises
