-- Tagged fields.
pub mod Tagged
