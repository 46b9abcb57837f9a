pub mod Lattice
pub mod Pairs
pub mod Scores
pub mod ThreeWay
pub mod YesNo
pub mod Paired
pub mod SameScore
