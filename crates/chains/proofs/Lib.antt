pub mod Holding
pub mod Chaining
pub mod Responding
pub mod Spans
pub mod Worded
pub mod Answering
