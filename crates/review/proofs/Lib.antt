-- What the proofs of this crate, and of the crates above it, cite.
pub mod Takes
pub mod Expressions
pub mod ToldRules
pub mod Stands
pub mod Held
pub mod Steps
pub mod Calls
pub mod Starting
pub mod Listing
pub mod Reviewing
pub mod Unique
pub mod Promises
