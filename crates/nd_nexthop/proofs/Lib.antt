pub mod Keys
pub mod Places
pub mod Recalled
pub mod Rounds
pub mod Routers
pub mod Steps
