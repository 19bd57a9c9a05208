-- The definitions that this crate's contracts cite, besides those of the crates below.
pub mod Memo
pub mod Working
pub mod Settling
pub mod Evaluating
