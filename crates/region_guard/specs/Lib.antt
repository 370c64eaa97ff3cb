pub mod Add
pub mod Laws
pub mod Lending
pub mod Memory
pub mod Region
pub mod Regions
