pub mod Adding
pub mod Own
pub mod Reaching
pub mod Writing
