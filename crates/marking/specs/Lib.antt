pub mod Bodies
pub mod Marks
pub mod Straight
pub mod Strips
pub mod Told
