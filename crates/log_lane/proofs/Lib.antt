pub mod Getter
pub mod Steps
pub mod Views
