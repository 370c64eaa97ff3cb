pub mod Halt
pub mod Laws
pub mod Modules
pub mod Start
