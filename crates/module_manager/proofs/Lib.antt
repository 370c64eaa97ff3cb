pub mod Clearing
pub mod Ending
pub mod Folds
pub mod Halted
pub mod HaltedWaits
pub mod NewSlot
pub mod Started
pub mod Ungranting
