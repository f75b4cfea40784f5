use Rattle.lsm_merge.specs.Gathering.{IsInTheMaking}
use Rattle.lsm_merge.proofs.gathering.gather_inputs.Given as goal

abbrev pub invariant-entries : goal.invariant-entries
invariant-entries g l = IsInTheMaking g.S.Shelf.honest l.job l.number l.output l.stream.before l.stream.left l.fn.shelf l.shelf
