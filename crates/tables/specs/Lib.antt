pub mod Faults
pub mod Format
pub mod Lawful
pub mod Memory
pub mod Places
pub mod Reading
pub mod Told
pub mod Writing
