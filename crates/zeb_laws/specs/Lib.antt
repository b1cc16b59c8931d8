pub mod Counts
pub mod Lasting
pub mod Targets
pub mod Worked
