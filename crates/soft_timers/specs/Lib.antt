pub mod Id
pub mod Laws
pub mod Timers
