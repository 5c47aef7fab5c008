pub mod Assemblies
pub mod Ready
