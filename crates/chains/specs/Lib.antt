pub mod Chains
pub mod Places
pub mod Laws
pub mod Progress
pub mod Held
pub mod Settings
