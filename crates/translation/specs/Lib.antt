pub mod Counts
pub mod Translation
