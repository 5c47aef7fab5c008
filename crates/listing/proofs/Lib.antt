pub mod Laws
pub mod FromSet
