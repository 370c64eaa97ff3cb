mod Begun
mod Ending
mod Finished
mod Living
mod Replayed
mod Sessions
mod Texts
