pub mod Table
pub mod Rows
pub mod Byte
pub mod Single
pub mod Burst
pub mod Flips
