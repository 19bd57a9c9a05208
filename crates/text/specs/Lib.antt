-- The definitions that this crate's contracts cite, besides those of the crates below.
pub mod Wrote
pub mod Lines
pub mod Reports
