pub mod Answering
pub mod Evaluated
pub mod Rules
pub mod Scopes
