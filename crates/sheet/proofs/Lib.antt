-- The laws that this crate and those above it cite, by subject.
pub mod Places
pub mod Sequences
pub mod Names
pub mod Readers
pub mod Heads
pub mod Boxes
pub mod Variables
pub mod Sections
