pub mod Boxed
pub mod Chained
pub mod Ordered
pub mod Walked
