pub mod RankTables
pub mod OwnDarts
