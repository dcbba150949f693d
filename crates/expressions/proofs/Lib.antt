-- What the proofs of this crate, and of the crates above it, cite.
pub mod Told
pub mod Fields
pub mod ByKind
pub mod Ends
pub mod Unique
