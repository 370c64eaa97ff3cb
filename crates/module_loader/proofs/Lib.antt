pub mod Apart
pub mod Ascending
pub mod Cutting
pub mod Placing
pub mod Taken
