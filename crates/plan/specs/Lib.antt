pub mod Contents
pub mod Written
