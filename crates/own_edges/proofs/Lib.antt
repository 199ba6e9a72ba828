pub mod KeysPushed
pub mod RanksWritten
pub mod RanksFound
pub mod EdgesOwned
