use Rattle.std.proofs.Common.{List, [], ◌∷◌, inl, inr, subst}
use Rattle.std.specs.Prelude.{ℕ}
use Rattle.lsm_shelf.specs.Asked.{Put}
use Rattle.lsm_state.specs.Asked.{changes_by}
use Rattle.lsm_state.specs.Ingesting.{coming_in, last_of, with_number}
use Rattle.lsm_crash.specs.Database.{HasMade}
use Rattle.lsm_crash.proofs.Asking.{collect_err_made, create_made, gather_made, ingest_err_made, ingest_made, install_made, only_going, open_made}
use Rattle.lsm_crash.proofs.Refusals.{gather_made_err}
use Rattle.lsm_crash.proofs.states.shelves_tell_what_was_asked.Goals as goal

pub returns-clause-one : goal.returns-clause-one
returns-clause-one g c = λ xs ys was is a b. only_going xs ys was is a b

pub returns-clause-ingest : goal.returns-clause-ingest
returns-clause-ingest g c = λ old new ws r was is i.
    subst (λ (image : List ℕ). HasMade (Put old.next image ∷ changes_by (with_number old i.slots) (coming_in i.table (last_of old ws)) ∷ []) was is) i.bytes
    (ingest_made old new ws r was is i)

pub returns-clause-gather : goal.returns-clause-gather
returns-clause-gather g c = gather_made g.P.Premise.holds

pub returns-clause-gather_err : goal.returns-clause-gather_err
returns-clause-gather_err g c = λ old new fault was is r. elim (gather_made_err g.P.Premise.holds old new fault was is r) [ inl none ↦ inl none | inr put ↦ inr (put.image, put.made) ]

pub returns-clause-install : goal.returns-clause-install
returns-clause-install g c = install_made

pub returns-clause-collect : goal.returns-clause-collect
returns-clause-collect g c = λ h removed was is a. a.told.made

pub returns-clause-open : goal.returns-clause-open
returns-clause-open g c = λ limit h d p. open_made g.P.Premise.holds limit h d p

pub returns-clause-create : goal.returns-clause-create
returns-clause-create g c = create_made

pub returns-clause-merge : goal.returns-clause-merge
returns-clause-merge g c = λ done was is told. told.made

pub returns-clause-none : goal.returns-clause-none
returns-clause-none g c = λ was is told. told.made

pub returns-clause-ingest_err : goal.returns-clause-ingest_err
returns-clause-ingest_err g c = ingest_err_made

pub returns-clause-collect_err : goal.returns-clause-collect_err
returns-clause-collect_err g c = collect_err_made
