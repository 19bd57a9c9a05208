-- Laws about the definitions that belong to no one function.
pub mod Unique
