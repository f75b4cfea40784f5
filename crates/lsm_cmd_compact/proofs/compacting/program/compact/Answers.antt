use Rattle.lsm_cmd_compact.proofs.CompactOutcomes.{is_refused}
use Rattle.lsm_cmd_compact.proofs.compacting.program.compact.Goals as goal

pub returns-clause-refused : goal.returns-clause-refused
returns-clause-refused g c =
    is_refused c.compact_to-done.result.0 c.status_of.result _ _ g.S.Shelf.honest c.args.options.now _ _ _ _ c.status_of.ensures.ok c.status_of.ensures.err
    c.compact_to-done.ensures.fault c.compact_to-done.ensures.left
