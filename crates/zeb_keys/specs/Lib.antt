pub mod Registers
pub mod Order
pub mod Texts
