pub mod Unique
pub mod OfType
