pub mod Meant
pub mod RowsMeant
