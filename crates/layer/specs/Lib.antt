pub mod Blocks
pub mod Judged
pub mod Stretches
