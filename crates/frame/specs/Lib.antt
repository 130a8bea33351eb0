pub mod Refusals
pub mod Naming
pub mod Layout
pub mod Codec
pub mod Checks
pub mod Parts
