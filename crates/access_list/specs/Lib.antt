-- One entry of a substructure, after the entries before it.
pub mod Entries
