pub mod Roundtrip
pub mod Transmitted
pub mod Residues
pub mod Answered
