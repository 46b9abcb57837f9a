pub mod Growth
pub mod Pairs
pub mod Standings
pub mod Turns
