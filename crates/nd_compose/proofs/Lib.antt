pub mod Formed
pub mod Meant
pub mod Redirects
pub mod ShortFrames
