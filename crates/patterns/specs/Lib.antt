pub mod Forms
pub mod Places
pub mod Steps
pub mod Quotas
pub mod Laws
