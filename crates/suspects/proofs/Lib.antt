-- What the proofs of this crate, and of the crates above it, cite.
pub mod Chains
pub mod Columns
pub mod Grow
pub mod InWriting
pub mod Ahead
pub mod Between
pub mod Told
pub mod Unique
