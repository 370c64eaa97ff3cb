pub mod Answered
pub mod Calls
pub mod Numbers
