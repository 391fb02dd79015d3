pub mod Composed
pub mod Composing
pub mod Places
