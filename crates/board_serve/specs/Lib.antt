pub mod Raised
pub mod Scripts
pub mod Got
pub mod Served
