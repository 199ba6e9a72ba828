pub mod Areas
pub mod Fractions
pub mod Walks
