use Rattle.std.proofs.Common.{ℕ}
use Rattle.std.specs.Prelude.{IsFalse}
use Rattle.std.specs.Io.KnownBytes.{Keeps}
use Rattle.lsm_cmd_compact.specs.Compacting.{AreRounds}
use Rattle.lsm_cmd_compact.proofs.compacting.clear.Given as goal

abbrev pub invariant-tries : goal.invariant-tries
invariant-tries g l = record {
  rounds : (count : ℕ) × AreRounds (g.S.Shelf.refuses g.N.Naming.place) g.S.Shelf.honest g.K.Invariant.keeps g.N.Naming.place l.options.workers l.picks count l.fn.shelf l.shelf;
  quiet : IsFalse l.options.progress → Keeps (g.E.Write.contents l.fn.err) (g.E.Write.contents l.err);
}
