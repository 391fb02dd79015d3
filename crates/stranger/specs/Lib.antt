pub mod Gauges
pub mod Batched
pub mod Paired
