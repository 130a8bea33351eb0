pub mod Serial
pub mod Laws
