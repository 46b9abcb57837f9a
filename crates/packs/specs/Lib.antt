pub mod Format
pub mod Reader
pub mod Summary
pub mod Told
