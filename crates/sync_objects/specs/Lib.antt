pub mod Laws
pub mod Semas
