pub mod Numbers
pub mod Search
pub mod Held
pub mod Calls
pub mod Copies
