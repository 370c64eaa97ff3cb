pub mod Formats
pub mod Groups
pub mod Immediates
pub mod Rows
pub mod Table
