-- What the crate says of syntax tables. The laws are in proofs/.
pub mod Table
pub mod Named
pub mod Filled
