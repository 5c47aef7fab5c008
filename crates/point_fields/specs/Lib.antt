pub mod WrittenParts
pub mod Fields
