mod Checked
mod Logs
pub mod Positions
mod Sheets
mod Words
