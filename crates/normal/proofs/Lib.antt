-- Laws that the proofs of the normaliser cite.
pub mod Counting
pub mod Composing
pub mod Numbered
pub mod Branched
pub mod Laying
pub mod Laid
pub mod Composed
pub mod Spots
pub mod Parts
pub mod Routes
pub mod Bodies
pub mod Turns
pub mod Plans
pub mod Storing
pub mod Normalising
