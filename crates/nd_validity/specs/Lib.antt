pub mod Validity
pub mod Reasons
pub mod Hearing
