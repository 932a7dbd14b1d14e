-- What the offers promise, and the access memory that they leave.
pub mod Calls
pub mod AccessAfter
