pub mod DiskLemmas
pub mod OpenedLemmas
pub mod ShelfLemmas
pub mod WalkLemmas
