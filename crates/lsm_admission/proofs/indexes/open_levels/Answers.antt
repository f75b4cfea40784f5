use Rattle.std.proofs.Common.{◌≡◌, ℕ, List, take, map, length, refl, sym, subst}
use Rattle.std.proofs.lemmas.Result.{err_from_is_err_and}
use Rattle.lsm_table.specs.Registry.{Table}
use Rattle.lsm_table.proofs.CallerLemmas.{becomes_same, becomes_then}
use Rattle.lsm_admission.specs.Indexes.{HaveIndexes, IsIndexRefusal}
use Rattle.lsm_admission.proofs.IndexLaws.{level_more, level_refused}
use Rattle.lsm_admission.proofs.indexes.open_levels.Goals as goal

pub loop-level-init : goal.loop-level-init
loop-level-init g c = record { told = becomes_same _; opened = λ honest t h. absurd h }

pub returns-in_err-open_level-clause-refused : goal.returns-in_err-open_level-clause-refused
returns-in_err-open_level-clause-refused g c =
    let p = err_from_is_err_and c.from_residual.result c.from_residual.ensures.1 in
    let fault = c.in_err-open_level.field-0.0 in
    rw (p.1, p.2) (level_refused (g.S.Shelf.refuses g.N.Naming.place) g.S.Shelf.honest
    (λ l. l.items) c.args.levels.now c.loop-level.level-index c.level-item.result fault
    c.loop-level-test.true c.level-item.is c.loop-level.invariant.opened
    (subst (λ (ts : List Table). IsIndexRefusal (g.S.Shelf.refuses g.N.Naming.place)
    g.S.Shelf.honest ts fault) c.as_slice.ensures.value c.in_err-open_level.ensures.refused))

pub loop-level-preserved : goal.loop-level-preserved
loop-level-preserved g c = record {
  told = becomes_then _ _ _ c.loop-level.invariant.told c.open_level.ensures.told;
  opened = λ honest. level_more (λ l. l.items) c.args.levels.now c.loop-level.level-index
      c.level-item.result c.loop-level-test.true c.level-item.is
      (c.loop-level.invariant.opened honest)
      (subst HaveIndexes c.as_slice.ensures.value (c.in_ok-open_level.ensures.opened honest));
}
