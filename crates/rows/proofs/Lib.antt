pub mod Halves
pub mod Items
pub mod Operands
pub mod Parents
pub mod Places
pub mod Standing
pub mod Backward
pub mod Walks
