pub mod QueueRows
pub mod SemaRows
pub mod Services
