pub mod Shown
pub mod Lines
pub mod Asks
pub mod Desk
pub mod Print
