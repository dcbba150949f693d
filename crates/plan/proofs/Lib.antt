-- What the proofs of this crate cite.
mod Room
mod Held
mod Readings
mod Asking
mod Ranges
mod Ports
mod Whole
-- What those above cite.
pub mod Charted
pub mod Unique
