pub mod Emitted
pub mod Walking
pub mod Unfolded
