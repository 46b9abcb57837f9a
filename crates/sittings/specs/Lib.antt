pub mod Sittings
pub mod Told
