pub mod Image
pub mod Laws
pub mod Opening
pub mod Placement
pub mod Taking
pub mod Want
