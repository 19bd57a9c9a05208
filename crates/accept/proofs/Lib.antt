-- Laws that belong to no one function.
pub mod Steps
pub mod Parts
pub mod Asked
