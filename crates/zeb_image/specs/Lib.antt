pub mod Names
pub mod NameOf
pub mod Holdings
pub mod Image
pub mod Looking
pub mod Rebuilding
pub mod PrivateChecking
pub mod PrivateRebuilding
