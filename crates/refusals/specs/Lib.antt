pub mod Answers
pub mod First
pub mod Printed
