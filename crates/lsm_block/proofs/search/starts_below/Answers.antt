use Rattle.std.proofs.Common.{Some, None, ◌∙◌}
use Rattle.lsm_codec.specs.KeyRef.{key_of}
use Rattle.lsm_block.proofs.SeekLaws.{below_found, first_internal}
use Rattle.lsm_block.proofs.search.starts_below.Goals as goal

pub is_below-requires : goal.is_below-requires
is_below-requires c = first_internal c.args.text.now c.args.restart c.in-Some.first.now (rw (c.in-Some.is, c.rest_from.ensures) at c.first_key.ensures)

pub returns-in-Some : goal.returns-in-Some
returns-in-Some c =
    c.is_below.ensures ∙ below_found (key_of c.args.key.now) c.args.text.now c.args.restart (Some c.in-Some.first.now) (rw (c.in-Some.is, c.rest_from.ensures) at c.first_key.ensures)

pub returns-in-None : goal.returns-in-None
returns-in-None c =
    below_found (key_of c.args.key.now) c.args.text.now c.args.restart None (rw (c.in-None.is, c.rest_from.ensures) at c.first_key.ensures)
