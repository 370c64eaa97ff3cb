pub mod Kept
pub mod Laws
pub mod Members
pub mod Moves
pub mod Sched
