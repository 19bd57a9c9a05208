-- What reading a sheet answers and leaves behind, by the definitions of crate alpha.
pub mod Place
pub mod Name
pub mod Record
pub mod Section
pub mod Table
pub mod Sequence
