pub mod Preamble
pub mod Refusal
pub mod Words
