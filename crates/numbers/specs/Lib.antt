pub mod Round
pub mod Wires
pub mod Laws
