pub mod Dns
pub mod DnsKept
pub mod AnnouncedNames
pub mod AnnouncedNamesKept
pub mod AnnouncedServers
pub mod AnnouncedServersKept
