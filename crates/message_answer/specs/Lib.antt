-- What is written to the answer buffer.
pub mod Puts
