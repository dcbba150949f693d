pub mod Heavy
pub mod Sets
pub mod Actions
pub mod Reached
pub mod Weights
pub mod Checked
