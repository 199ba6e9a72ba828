pub mod Entries
pub mod Grown
pub mod Indexed
pub mod Nodes
pub mod NodesFall
