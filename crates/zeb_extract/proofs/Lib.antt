pub mod Members
pub mod Spaces
pub mod Listed
pub mod Cited
