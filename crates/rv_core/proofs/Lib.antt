pub mod Effects
pub mod Extending
