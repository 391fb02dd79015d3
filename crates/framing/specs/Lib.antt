pub mod Framed
pub mod Texts
