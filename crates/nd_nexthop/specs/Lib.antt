pub mod Choice
pub mod DefaultRouter
pub mod DefaultRouterKept
pub mod History
pub mod Left
pub mod Memo
pub mod NextHop
pub mod NextHopKept
