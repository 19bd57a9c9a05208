-- The three demands are met by the definitions and by every result that keeps the promises.
pub mod Steps
pub mod Records
pub mod SameRun
pub mod Again
pub mod Limits
pub mod Listed
pub mod Passes
pub mod Kept
pub mod Calls
pub mod Demands
