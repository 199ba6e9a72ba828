pub mod Strategies
pub mod Numbers
pub mod Values
pub mod Grammar
pub mod Command
