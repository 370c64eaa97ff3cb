pub mod Create
pub mod Laws
pub mod Numbers
pub mod ObjectRows
pub mod Services
pub mod ThreadRows
