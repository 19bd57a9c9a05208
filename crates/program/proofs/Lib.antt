-- Laws that the proofs of the program's functions cite, and that the program may stop reading its input.
pub mod Framing
pub mod Listing
pub mod Stopping
pub mod Running
pub mod Printing
