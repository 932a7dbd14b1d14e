-- What one message type comes to.
pub mod Operation
pub mod Admission
