pub mod Words
pub mod Conditions
pub mod Refusals
pub mod Settings
pub mod Marks
pub mod Few
