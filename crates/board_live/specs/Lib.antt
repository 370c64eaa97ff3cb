pub mod Finish
pub mod Live
