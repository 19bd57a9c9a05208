-- Laws of the run: the input list, the memo before the run, the tables.
pub mod Listing
pub mod Beginning
pub mod Tabling
pub mod Running
