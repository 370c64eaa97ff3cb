pub mod Code
pub mod End
pub mod Kind
pub mod Limits
pub mod Line
pub mod Reference
pub mod State
