pub mod Parses
pub mod Misuses
pub mod PrivateParses
pub mod Grammar
pub mod Names
