pub mod Formulas
pub mod Gated
pub mod Logic
pub mod Meaning
pub mod Operators
pub mod Reordered
pub mod Worked
