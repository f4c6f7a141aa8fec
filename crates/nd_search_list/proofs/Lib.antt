pub mod Signs
pub mod Labels
pub mod Lowering
pub mod Walk
pub mod Deciding
pub mod Texts
