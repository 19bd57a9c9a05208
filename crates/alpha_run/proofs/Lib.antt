-- What the program writes, from what it reads.
pub mod Whole
