pub mod Cited
pub mod Identifier
pub mod Names
pub mod Occurrences
pub mod PrivateListing
