pub mod DnsServers
pub mod SearchNames
pub mod Writing
pub mod Formed
pub mod Looping
pub mod Putting
pub mod Written
pub mod Framing
