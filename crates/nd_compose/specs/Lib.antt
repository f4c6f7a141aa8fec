pub mod Frames
pub mod Redirect
pub mod Meaning
pub mod Room
