-- What the message call promises.
pub mod Calls
