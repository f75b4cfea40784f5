use Rattle.std.proofs.Common.{rules, ◌≡◌, ◌∙◌, ◌+◌, IfErr, OnOk, inl, refl, subst}
use Rattle.std.specs.Prelude.{Err}
use Rattle.lsm_state.specs.Held.{Held}
use Rattle.lsm_bulk_load.specs.Ending.{IsLate}
use Rattle.lsm_store.specs.Compacting.{IsSeated}
use Rattle.lsm_bulk_load.specs.Keeping.{IsKeptSince}
use Rattle.lsm_shelf.specs.Told.{GivesForks}
use Rattle.lsm_bulk_load.specs.Loading.{HaveWorkedBeside, IsLoaded, IsStopped}
use Rattle.lsm_bulk_load.specs.Marks.{marked_in}
use Rattle.lsm_bulk_load.specs.declared.load_fault.LoadFault.TheVariants.{OutOfMemory}
use Rattle.lsm_bulk_load.proofs.EndingLaws.{ended_well, forks_given, forks_late, forks_unused}
use Rattle.lsm_bulk_load.proofs.EndingLaws.{none_well, unbegun, unfinished, worked_beside}
use Rattle.lsm_bulk_load.proofs.MarkLaws.{kept_seated}
use Rattle.lsm_bulk_load.proofs.beside.load_beside.Goals as goal

pub returns-in-Some-clause-refused : goal.returns-in-Some-clause-refused
returns-in-Some-clause-refused g c =
    let a = c.in-Some.answer in
    let same : c.of-mark.result ≡ marked_in c.args.state = search rules in
    let l : OnOk a.0.0 (IsLoaded c.args.lines c.of-mark.result a.0.1 a.0.2) = search rules in
    let s : IfErr a.0.0 (λ e. IsStopped (g.S.Shelf.refuses g.N.Naming.place) g.O.Origin.keeps c.args.lines c.of-mark.result a.0.1 a.0.2 e) = search rules in
    let Refused = g.S.Shelf.refuses g.N.Naming.place in
    let kept = IsKeptSince g.O.Origin.keeps g.O.Origin.found in
    let each = worked_beside g.S.Shelf.honest Refused kept g.N.Naming.place c.args.shelf.now.forks
    c.args.workers c.in-Ok.shelves.shelves.items c.deref.result.now a.1.items
    c.in-Ok.ensures.new c.deref.ensures.value
    (rw c.in-Some.is at c.load_all-answer.ensures.ended)
    in
    let late : IfErr c.finish-done.result (λ e. IsLate a.0.1 (marked_in c.finish-done.new.state) a.0.0 c.deref.result.now e) = c.finish-done.ensures.late in
    unfinished Refused (HaveWorkedBeside g.S.Shelf.honest Refused kept g.N.Naming.place
    c.args.shelf.now.forks c.args.workers) g.O.Origin.keeps c.args.lines
    (marked_in c.args.state) c.of-mark.result a.0.1 (marked_in c.finish-done.new.state) a.0.2
    c.deref.result.now a.0.0 c.finish-done.result same l s each late

pub returns-in-None-clause-refused : goal.returns-in-None-clause-refused
returns-in-None-clause-refused g c =
    let same : c.of-before.result ≡ marked_in c.args.state = search rules in
    let Refused = g.S.Shelf.refuses g.N.Naming.place in
    let Ended = HaveWorkedBeside g.S.Shelf.honest Refused
    (IsKeptSince g.O.Origin.keeps g.O.Origin.found) g.N.Naming.place c.args.shelf.now.forks
    c.args.workers in
    unbegun Refused Ended g.O.Origin.keeps c.args.lines (marked_in c.args.state) c.of-before.result _ c.none-in-None.result
    c.finish-done-in-None.result same c.requires.held c.none-in-None.ensures c.finish-done-in-None.ensures.late

pub returns-in-Some-clause-worked : goal.returns-in-Some-clause-worked
returns-in-Some-clause-worked g c =
    let a = c.in-Some.answer in
    let Refused = g.S.Shelf.refuses g.N.Naming.place in
    let kept = IsKeptSince g.O.Origin.keeps g.O.Origin.found in
    let each = worked_beside g.S.Shelf.honest Refused kept g.N.Naming.place c.args.shelf.now.forks
    c.args.workers c.in-Ok.shelves.shelves.items c.deref.result.now a.1.items
    c.in-Ok.ensures.new c.deref.ensures.value
    (rw c.in-Some.is at c.load_all-answer.ensures.ended)
    in
    ended_well g.S.Shelf.honest Refused kept g.N.Naming.place c.args.shelf.now.forks c.args.workers
    c.finish-done.result c.deref.result.now c.finish-done.ensures.faultless each

pub returns-in-None-clause-worked : goal.returns-in-None-clause-worked
returns-in-None-clause-worked g c =
    none_well g.S.Shelf.honest (g.S.Shelf.refuses g.N.Naming.place)
    (IsKeptSince g.O.Origin.keeps g.O.Origin.found) g.N.Naming.place c.args.shelf.now.forks
    c.args.workers c.finish-done-in-None.result (Err OutOfMemory) OutOfMemory refl
    c.finish-done-in-None.ensures.loaded

pub returns-in-Some-clause-kept : goal.returns-in-Some-clause-kept
returns-in-Some-clause-kept g c = (c.load_all-answer.result.1, c.load_all-answer.ensures.kept, c.finish-done.ensures.looked, c.finish-done.ensures.none)

pub returns-in-None-clause-kept : goal.returns-in-None-clause-kept
returns-in-None-clause-kept g c = (c.load_all-answer.result.1, c.load_all-answer.ensures.kept, c.finish-done-in-None.ensures.looked, c.finish-done-in-None.ensures.none)

pub returns-in-Some-clause-forked : goal.returns-in-Some-clause-forked
returns-in-Some-clause-forked g c =
    let a = c.in-Some.answer in
    let s : IfErr a.0.0 (λ e. IsStopped (g.S.Shelf.refuses g.N.Naming.place) g.O.Origin.keeps
    c.args.lines c.of-mark.result a.0.1 a.0.2 e) = search rules in
    let late : IfErr c.finish-done.result
    (λ e. IsLate a.0.1 (marked_in c.finish-done.new.state) a.0.0 c.deref.result.now e) =
    c.finish-done.ensures.late in
    let gives : GivesForks (c.args.workers + 1) c.args.shelf.now c.of.new.shelf =
    (c.in-Ok.ensures.just, rw c.in-Ok.is at c.of.ensures.counts) in
    forks_late (g.S.Shelf.refuses g.N.Naming.place) g.O.Origin.keeps c.args.lines c.of-mark.result
    a.0.1 (marked_in c.finish-done.new.state) a.0.2 c.deref.result.now a.0.0
    c.finish-done.result (c.args.workers + 1)
    c.args.shelf.now c.of.new.shelf s late gives

pub returns-in-None-clause-forked : goal.returns-in-None-clause-forked
returns-in-None-clause-forked g c =
    let gives : GivesForks (c.args.workers + 1) c.args.shelf.now c.of.new.shelf =
    (c.in-Ok.ensures.just, rw c.in-Ok.is at c.of.ensures.counts) in
    forks_unused c.of-before.result _ c.finish-done-in-None.result (c.args.workers + 1)
    c.args.shelf.now c.of.new.shelf c.finish-done-in-None.ensures.late gives

pub returns-in-Some-clause-just : goal.returns-in-Some-clause-just
returns-in-Some-clause-just g c = forks_given c.finish-done.result (c.args.workers + 1)
    c.args.shelf.now c.of.new.shelf (c.in-Ok.ensures.just, rw c.in-Ok.is at c.of.ensures.counts)

pub returns-in-None-clause-just : goal.returns-in-None-clause-just
returns-in-None-clause-just g c = forks_given c.finish-done-in-None.result (c.args.workers + 1)
    c.args.shelf.now c.of.new.shelf (c.in-Ok.ensures.just, rw c.in-Ok.is at c.of.ensures.counts)

pub of-store-requires-clause-kept : goal.of-store-requires-clause-kept
of-store-requires-clause-kept g c κs within = λ h seated. (
    kept_seated g.O.Origin.keeps g.O.Origin.found c.args.state h c.requires.found c.requires.first
    (subst (λ (s : Held). IsSeated s h) (c.of-mark.ensures.same ∙ c.of-before.ensures.same)
    seated)
    )

pub returns-in-Err-clause-kept : goal.returns-in-Err-clause-kept
returns-in-Err-clause-kept g c =
    let back : c.of-mark.new.state ≡ c.args.state = c.of-mark.ensures.same
    ∙ c.of-before.ensures.same in (
      c.of-mark.new.state,
      ∣ c.requires.first c.of-mark.new.state (inl back) ∣₁,
      refl,
      λ ticket has.
          has,
    )
