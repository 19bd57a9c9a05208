-- The definitions that this crate's contracts cite, besides those of crate alpha.
pub mod Range
