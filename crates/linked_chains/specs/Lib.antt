pub mod Chains
pub mod ChainsInMemory
pub mod Neighbours
pub mod Writes
