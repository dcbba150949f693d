-- What the proofs of this crate, and of the crates above it, cite.
pub mod Charts
mod ActionSteps
mod Afterwards
mod RuleSteps
mod ChainSteps
mod BookSteps
pub mod Unique
