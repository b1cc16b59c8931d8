pub mod Refusals
pub mod PrivateRefusals
pub mod Analysing
pub mod PrivateWalk
pub mod Printing
pub mod Lines
pub mod PrivateLines
pub mod Laws
