pub mod AtAPlace
pub mod Counted
pub mod Kept
pub mod Lists
pub mod OverCalls
