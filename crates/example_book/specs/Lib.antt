pub mod Always
pub mod Laws
