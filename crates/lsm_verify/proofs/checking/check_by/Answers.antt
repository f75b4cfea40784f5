use Rattle.std.proofs.Common.{List, map, sym, subst}
use Rattle.lsm_table.specs.Registry.{Table}
use Rattle.lsm_verify.specs.Settled.{IsSettled, KeepsAge}
use Rattle.lsm_version.specs.Versions.{IsSound, Levels, files, files_from}
use Rattle.lsm_verify.proofs.Judged.{placed_fit}
use Rattle.lsm_verify.proofs.UnsettledFiles.{settled_keeps}
use Rattle.lsm_verify.proofs.checking.check_by.Goals as goal

pub of-requires-clause-sound : goal.of-requires-clause-sound
of-requires-clause-sound g c κs within = λ h. c.in_ok-levels.ensures.judged c.in_ok-pointers.pointers.items (c.in_ok-levels.ensures.ages h)

pub returns-clause-sound : goal.returns-clause-sound
returns-clause-sound g c = λ h.
    subst IsSound (sym c.in_ok-version.ensures) (c.in_ok-levels.ensures.judged c.in_ok-pointers.pointers.items (c.in_ok-levels.ensures.ages h))

pub returns-clause-judged : goal.returns-clause-judged
returns-clause-judged g c =
    subst (λ (v : Levels). KeepsAge (files v) → IsSound v) (sym c.in_ok-version.ensures) (c.in_ok-levels.ensures.judged c.in_ok-pointers.pointers.items)

pub returns-clause-settled : goal.returns-clause-settled
returns-clause-settled g c = subst (λ (v : Levels). IsSettled (files v) → IsSound v) (sym c.in_ok-version.ensures) (λ settled.
    (let r = c.in_ok-levels.ensures.tables in
    let tables : List (List Table) = map (λ l. l.items) c.in_ok-levels.levels.items in
    c.in_ok-levels.ensures.judged c.in_ok-pointers.pointers.items
    (settled_keeps (files_from 0 tables) (placed_fit c.args.shape.now.last c.args.shape.now.levels r.read tables r.files r.placed) settled)))
