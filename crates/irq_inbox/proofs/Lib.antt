pub mod Passes
pub mod Steps
pub mod Views
pub mod Words
