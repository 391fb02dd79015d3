pub mod Marks
pub mod Places
pub mod Examples
