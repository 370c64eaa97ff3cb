pub mod WordByWord
pub mod Reading
