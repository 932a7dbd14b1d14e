-- Recordings in pieces: what a stream prints, what one call of the feeding function does, and what is claimed of both.
pub mod Stream
pub mod Turn
pub mod Statement
