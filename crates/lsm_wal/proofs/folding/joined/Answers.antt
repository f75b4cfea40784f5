use Rattle.std.proofs.Common.{◌++◌, ap, ◌∙◌}
use Rattle.std.specs.Vec.Iter.{into_iter_items}
use Rattle.lsm_wal.proofs.EntryLaws.{joined_more}
use Rattle.lsm_wal.proofs.folding.joined.Goals as goal

pub loop-batch-preserved : goal.loop-batch-preserved
loop-batch-preserved c =
    joined_more c.loop-batch.writes.items c.append.new.self.items c.in-Some.batch
    (into_iter_items c.loop-batch.batch-iterator) (into_iter_items c.next.new.self) _
    c.in-Some.ensures.steps.0
    (c.in_ok-append.ensures.items ∙ ap (λ ws. c.loop-batch.writes.items ++ ws)
    c.into_vec-more.ensures) c.loop-batch.invariant
