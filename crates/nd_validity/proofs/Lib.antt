pub mod Order
pub mod Frames
pub mod Deciding
pub mod Carried
pub mod OfType
