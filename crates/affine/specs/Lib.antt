-- The definitions that this crate's contracts cite, besides those of crate alpha.
pub mod Value
pub mod Size
pub mod Reading
