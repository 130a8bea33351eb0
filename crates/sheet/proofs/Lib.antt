pub mod Words
pub mod Fated
pub mod Printed
pub mod MadeWire
pub mod Bits
