-- What a change of the controller leaves, by cases, for the tactics.
use Rattle.record.proofs.Counted.{none_there, granted, overridden, asked-again, handed_over, handed_to_itself, released}

pub ruleset changes = (none_there, granted, overridden, asked-again, handed_over, handed_to_itself, released)
