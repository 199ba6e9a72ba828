pub mod PutAfter
pub mod Reading
pub mod Rows
pub mod Inserted
pub mod Heads
pub mod Seen
pub mod Writing
pub mod Started
