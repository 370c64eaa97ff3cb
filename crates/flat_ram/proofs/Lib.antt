pub mod Numbers
pub mod Over
