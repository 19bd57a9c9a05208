-- The definitions that this crate's contracts cite, besides those of the crates below.
pub mod Ground
pub mod Walk
pub mod Held
pub mod Standing
pub mod Inside
pub mod Constraints
pub mod Holding
pub mod Element
pub mod Filling
