pub mod Rule
pub mod Seen
pub mod Words
