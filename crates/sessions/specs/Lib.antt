pub mod Faults
pub mod Logs
pub mod Printed
pub mod Sheets
pub mod States
pub mod Told
