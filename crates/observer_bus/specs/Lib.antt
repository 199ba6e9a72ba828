pub mod Seats
pub mod Rounds
pub mod Rows
pub mod Calls
pub mod RoundLaws
