pub mod Events
pub mod Log
pub mod LogIn
pub mod Logged
pub mod Plain
pub mod Reading
pub mod Text
