pub mod Laws
pub mod ThreadList
pub mod Wait
pub mod Waits
