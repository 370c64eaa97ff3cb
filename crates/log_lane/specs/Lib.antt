pub mod Getter
pub mod Rule
pub mod Seen
