pub mod Numbering
pub mod Adding
pub mod Plain
pub mod Saying
pub mod Fitting
