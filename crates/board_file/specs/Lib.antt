pub mod Path
pub mod Field
pub mod Board
pub mod Answer
pub mod Part
pub mod Rules
