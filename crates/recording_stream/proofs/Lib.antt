-- What is shown of recordings in pieces: of a stream, and of the calls that feed one.
pub mod Stream
pub mod Turn
pub mod Theorem
