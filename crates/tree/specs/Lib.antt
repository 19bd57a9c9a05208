-- What the walkers over prefix nodes require and answer, by the definitions of crate alpha.
pub mod Classes
pub mod Standing
pub mod Ends
pub mod Prepared
pub mod Judged
pub mod Sorted
pub mod Bounding
pub mod Ruled
pub mod Formed
