pub mod Answered
pub mod Ruled
