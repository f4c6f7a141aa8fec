pub mod Label
pub mod Name
pub mod NameRef
pub mod Names
pub mod NamesLeft
pub mod Reading
pub mod Text
