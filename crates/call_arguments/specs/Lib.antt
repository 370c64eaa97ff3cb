pub mod Laws
pub mod Names
pub mod Pointers
pub mod Words
