-- Laws that the proofs of the printing functions cite.
pub mod Writing
pub mod Numbers
pub mod Outcomes
pub mod Elements
pub mod Variables
pub mod Lines
