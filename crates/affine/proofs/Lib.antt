-- The laws that this crate and those above it cite, by subject.
pub mod Several
pub mod Meaning
pub mod Bounds
pub mod Told
pub mod Reader
pub mod Fetched
