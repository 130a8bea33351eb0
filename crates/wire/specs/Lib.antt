pub mod Wires
pub mod Kept
pub mod Delivered
pub mod Plains
pub mod Lines
pub mod Fates
pub mod Anys
