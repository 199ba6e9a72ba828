pub mod Divisor
pub mod Lowest
pub mod Ratio
