pub mod Words
pub mod StateWords
