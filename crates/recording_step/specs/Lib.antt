-- A field carried out by its tag; and what a session holds.
pub mod SessionMemory
pub mod Fields
