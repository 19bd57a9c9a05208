-- The definitions that this crate's contracts cite, besides those of the crates below.
pub mod Count
pub mod Counted
pub mod Part
pub mod Followed
pub mod Rows
pub mod Spot
pub mod Body
pub mod Plan
pub mod Stored
pub mod Planned
