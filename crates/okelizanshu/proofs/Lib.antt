-- Laws that belong to no one function.
pub mod Sizes
pub mod Packing
