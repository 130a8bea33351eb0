pub mod Copying
pub mod Making
pub mod Reading
pub mod Whole
