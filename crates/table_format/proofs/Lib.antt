pub mod Laws
pub mod Looked
