pub mod Folding
pub mod Words
pub mod Numbers
pub mod NumbersLeft
pub mod Symbols
pub mod Patterns
pub mod Truncation
pub mod PrivateStars
