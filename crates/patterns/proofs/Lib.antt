mod Counted
mod Plain
