pub mod Homes
pub mod Kinds
pub mod Reach
pub mod Rows
pub mod Printed
