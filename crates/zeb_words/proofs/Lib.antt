pub mod ReadingLemmas
mod Leads
mod Plain
mod Flags
mod Items
mod Uses
mod Top
mod TopFound
mod TopRead
mod Leaf
mod LeafSaid
mod LeafFound
mod LeafRead
mod Numbers
mod LeafActs
mod Asking
mod Defaults
mod Naming
mod Taking
mod OneCommand
mod Examples
pub mod Cited
pub mod Made
