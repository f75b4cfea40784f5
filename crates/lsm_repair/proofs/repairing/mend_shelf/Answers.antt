use Rattle.std.proofs.Common.{inl}
use Rattle.lsm_repair.proofs.repairing.mend_shelf.Goals as goal

pub returns-in-Err-clause-refused : goal.returns-in-Err-clause-refused
returns-in-Err-clause-refused g c = inl (inl c.from.ensures)
