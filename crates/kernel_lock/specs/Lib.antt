pub mod Holds
pub mod Nothing
pub mod Turn
