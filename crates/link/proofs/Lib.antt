pub mod Laws
pub mod Rings
