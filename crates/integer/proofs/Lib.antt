-- The laws that this crate and those above it cite, by subject.
pub mod Sizes
pub mod Order
pub mod Complement
pub mod Fields
pub mod Division
pub mod Operators
pub mod Machine
