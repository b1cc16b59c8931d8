pub mod Cited
pub mod LeafStatements
pub mod LeafShapes
pub mod CoveringLeaves
pub mod CoveringCalls
pub mod OnlyLeaf
