use Rattle.std.proofs.Common.{sym, subst}
use Rattle.std.proofs.lemmas.Result.{err_from_is_err_and}
use Rattle.lsm_journal.specs.Finding.{IsFound}
use Rattle.lsm_journal.proofs.CallerLemmas.{found_without_room}
use Rattle.lsm_state.specs.Held.{Held}
use Rattle.lsm_state.proofs.OpenLaws.{openable_found}
use Rattle.lsm_state.proofs.state.State.open_to_read.Goals as goal
use Rattle.lsm_state.specs.Options.{limit_of}

pub halted-requires-clause-openable : goal.halted-requires-clause-openable
halted-requires-clause-openable g c κs within =
    let f = c.in_ok-found.found in (
      f.rest,
      openable_found g.S.Shelf.honest _ f.journal f.version f.rest f.next _ _
          c.in_ok-found.ensures.found,
    )

pub returns-in_err-state-clause-refused : goal.returns-in_err-state-clause-refused
returns-in_err-state-clause-refused g c =
    let p = err_from_is_err_and c.from_residual-in_err-state.result c.from_residual-in_err-state.ensures.1 in
    let f = c.in_ok-found.found in
    rw (p.1, p.2) (found_without_room _ _ f.journal f.version f.rest f.next _ _ c.in_ok-found.ensures.found)

pub returns-clause-found : goal.returns-clause-found
returns-clause-found g c =
    let f = c.in_ok-found.found in
    (f.rest, subst (λ (x : Held). IsFound g.S.Shelf.honest (limit_of c.args.options) x.journal x.slots.version f.rest x.next c.args.shelf.now c.read.new.shelf) (sym c.in_ok-state.ensures) (rw c.limit.ensures at c.in_ok-found.ensures.found))
