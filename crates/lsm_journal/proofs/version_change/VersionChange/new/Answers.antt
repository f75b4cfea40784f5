use Rattle.lsm_manifest.specs.EditFit.{FitsDeleted}
use Rattle.lsm_journal.proofs.Loops.{all_moved}
use Rattle.lsm_journal.proofs.version_change.VersionChange.new.Goals as goal

pub invariant_of-result : goal.invariant_of-result
invariant_of-result g c = record {
  deleted = all_moved FitsDeleted c.args.deleted.items _ c.in_order.ensures.elements c.requires.deleted;
  ordered = c.in_order.ensures.ordered;
  added = c.requires.added;
  pointer = c.requires.pointer;
}
