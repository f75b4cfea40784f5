use Rattle.lsm_model.specs.Merging.{entries_of}
use Rattle.lsm_merge.proofs.UnderWay.{IsUnderWay}
use Rattle.lsm_merge.proofs.compaction.merge.Given as goal

abbrev pub invariant-entries : goal.invariant-entries
invariant-entries g l =
    IsUnderWay g.S.Shelf.honest l.job (entries_of l.initial.stream.left.placed) l.fn.shelf l.shelf
    (g.D.NumberSource.drew l.fn.numbers) (g.D.NumberSource.drew l.numbers) (g.D.NumberSource.refused l.fn.numbers) (g.D.NumberSource.refused l.numbers)
    (g.D.NumberSource.asked l.fn.numbers) (g.D.NumberSource.asked l.numbers)
    l.outputs l.stream.before l.stream.left
    × g.D.NumberSource.ready l.numbers
