-- Supervisors as a table.
pub mod Supervisors
