use Rattle.std.proofs.Common.{◌∙◌}
use Rattle.lsm_table.proofs.HeldBlockLaws.{none_itself, none_held}
use Rattle.lsm_table.proofs.held_block.no_entries.Goals as goal

pub of-requires : goal.of-requires
of-requires c = none_itself

pub returns : goal.returns
returns c = c.of.ensures.entries ∙ none_held
