-- The laws of this crate. Assumes nothing.
mod Case
