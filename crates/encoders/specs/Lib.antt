pub mod Holding
pub mod Bytes
pub mod Contact
pub mod Event
pub mod Letter
pub mod Held
pub mod Settings
pub mod Laws
