-- Laws that the proofs of the walkers cite.
pub mod Standings
pub mod Walks
pub mod Restrictions
pub mod Records
pub mod Leaves
pub mod Ways
pub mod Carried
pub mod Choices
pub mod Checking
pub mod Bodying
pub mod Filled
