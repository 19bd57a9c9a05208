-- Laws that the proofs of the walkers cite.
pub mod Classes
pub mod Noding
pub mod Standings
pub mod Heading
pub mod Fitting
pub mod Judging
pub mod Sorting
pub mod Reaching
pub mod Placing
pub mod Bodying
pub mod Passing
pub mod Declaring
pub mod Forming
pub mod Preparing
pub mod Checking
