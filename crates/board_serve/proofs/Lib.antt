mod Counts
mod Ended
mod Lines
mod Lists
mod Running
