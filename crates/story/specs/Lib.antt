pub mod Contacted
