pub mod Digits
pub mod Text
pub mod Spelling
pub mod Parsing
pub mod Flags
pub mod HexDigits
