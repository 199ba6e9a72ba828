pub mod Cuts
pub mod Past
pub mod HistoryInMemory
pub mod Changed
pub mod DrawnRecords
