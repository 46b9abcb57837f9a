pub mod Bodies
pub mod Filling
pub mod Left
pub mod Plain
pub mod Rules
pub mod Single
pub mod Turns
pub mod Walks
