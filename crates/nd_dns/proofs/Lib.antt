pub mod Adding
pub mod Few
pub mod OfType
