-- The ranges that the loops of `index_in` and `point_in` go through, and what these loops keep.
pub mod Ranges
pub mod Steps
pub mod Coordinates
