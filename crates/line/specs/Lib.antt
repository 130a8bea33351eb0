pub mod Code
pub mod Groups
pub mod Places
pub mod Tables
