pub mod Found
pub mod Texts
