pub mod Filled
pub mod Lawful
pub mod Judging
pub mod Law
