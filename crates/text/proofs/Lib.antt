pub mod Cuts
pub mod Decimal
pub mod HexPairs
pub mod HexPrinted
pub mod HexShown
pub mod Puts
