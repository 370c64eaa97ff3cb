pub mod Distinct
pub mod Faults
pub mod Files
pub mod Sink
pub mod Status
