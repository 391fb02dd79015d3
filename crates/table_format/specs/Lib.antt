pub mod Layout
pub mod Faults
pub mod Checked
pub mod Lawful
pub mod Texts
