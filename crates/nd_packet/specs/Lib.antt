pub mod Packet
pub mod Waiting
