pub mod Contents
pub mod Own
pub mod Told
pub mod Inner
pub mod Held
