pub mod Ranks
pub mod OuterKeys
