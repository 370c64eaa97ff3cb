pub mod Arithmetic
pub mod Cause
pub mod Execute
pub mod Hart
pub mod Memory
pub mod Operation
pub mod Registers
