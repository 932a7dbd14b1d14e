-- The role by cases, for the tactics.
use Rattle.rules.proofs.Permission.{role_zero, role_master, role_open, role_first, role-second, role-third, role-none}

pub ruleset roles = (role_zero, role_master, role_open, role_first, role-second, role-third, role-none)
