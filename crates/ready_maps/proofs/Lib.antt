pub mod Facts
pub mod HolderLaw
pub mod HolderMoves
pub mod ListFacts
pub mod Members
pub mod Numbers
pub mod ThresholdLaw
