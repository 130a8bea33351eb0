pub mod Places
pub mod Pieces
pub mod Headers
pub mod Figures
pub mod Along
pub mod Dropping
pub mod Rooms
pub mod Steps
