pub mod Number
pub mod Laws
pub mod Equations
pub mod NamedLaws
pub mod FilledLaws
