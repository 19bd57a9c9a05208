-- Laws of the memo, of things that are worked out, and the ways through the evaluators.
pub mod Entries
pub mod Answers
pub mod Stores
pub mod Doing
pub mod Operands
pub mod Ways
pub mod Elements
pub mod Owning
pub mod Stacks
pub mod Grounded
