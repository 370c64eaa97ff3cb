pub mod Caller
pub mod Ecall
pub mod Laws
pub mod Services
