pub mod Laws
pub mod Lending
pub mod Ram
