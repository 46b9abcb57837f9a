pub mod Both
pub mod Bytes
pub mod Laid
pub mod Sound
pub mod Trees
pub mod Written
