pub mod Items
pub mod Keys
pub mod Meaning
pub mod Rules
pub mod Steps
pub mod Words
