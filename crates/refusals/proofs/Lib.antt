pub mod Exits
pub mod First
pub mod Numbers
