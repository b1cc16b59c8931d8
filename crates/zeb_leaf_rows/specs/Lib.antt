pub mod LeafRows
pub mod PrivateLeafRows
