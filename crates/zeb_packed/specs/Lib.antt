pub mod PrivatePackedRows
pub mod PrivatePackedChanges
pub mod PrivateUnitCalls
pub mod PrivateNewRows
