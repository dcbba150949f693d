-- What the proofs of this crate cite.
pub mod Laws
pub mod RoundTrip
pub mod Slots
pub mod States
pub mod Unique
