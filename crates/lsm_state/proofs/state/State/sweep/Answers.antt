use Rattle.std.proofs.Common.{◌≡◌, [], refl, inl, inr, ◌∙◌, ap, sym, subst}
use Rattle.std.proofs.lemmas.Result.{err_from_is_err_and}
use Rattle.lsm_codec.specs.Lists.{Has}
use Rattle.lsm_shelf.specs.Asked.{Asked}
use Rattle.lsm_shelf.specs.declared.shelf_fault.ShelfFault.{ShelfFault}
use Rattle.lsm_shelf.specs.Told.{Becomes, Told, listing}
use Rattle.lsm_shelf.proofs.CallerLemmas.{want_or}
use Rattle.lsm_state.specs.Asked.{CollectRefused}
use Rattle.lsm_state.specs.Collecting.{IsStopped, outside, removing_all}
use Rattle.lsm_state.proofs.AskedLaws.{outside_free}
use Rattle.lsm_state.proofs.Removing.{becomes_removing, on_err, stopped_before}
use Rattle.lsm_state.proofs.state.State.sweep.Goals as goal

pub returns-in_err-reserve-clause-err : goal.returns-in_err-reserve-clause-err
returns-in_err-reserve-clause-err g c =
    let listed = c.in_ok-numbers.numbers.items in
    let kept = c.in_ok-kept.kept.items in
    let was : Told = listing listed c.args.shelf.now in
    let is : Told = c.list.new.self in
    let none : IsStopped (outside kept listed) [] was is = record { back = outside kept listed; parts = refl; asked = inl c.in_ok-numbers.ensures.ok } in
    on_err c.from_residual-in_err-reserve.result (inr (listed, kept, c.in_ok-kept.ensures.numbers, subst (λ l. IsStopped (outside kept listed) l was is) (sym (c.reserve.ensures.items ∙ c.requires.none.0)) none))

pub returns-in_err-remove_all-clause-err : goal.returns-in_err-remove_all-clause-err
returns-in_err-remove_all-clause-err g c =
    let listed = c.in_ok-numbers.numbers.items in
    let kept = c.in_ok-kept.kept.items in
    let was : Told = listing listed c.args.shelf.now in
    let mid : Told = c.list.new.self in
    let is : Told = c.remove_all.new.shelf in
    let removed = c.remove_all.new.removed.items in
    let going : c.deref-2.result.now ≡ outside kept listed = c.deref-2.ensures.value ∙ (c.keep_outside.ensures ∙ ap (λ k. outside k listed) c.deref.ensures.value) in
    on_err c.from_residual-in_err-remove_all.result (inr (
      listed,
      kept,
      c.in_ok-kept.ensures.numbers,
      stopped_before (outside kept listed) removed was mid is c.in_ok-numbers.ensures.ok (subst (λ ns. IsStopped ns removed mid is) going c.in_err-remove_all.ensures.err),
    ))

pub returns-in_err-numbers-clause-asked : goal.returns-in_err-numbers-clause-asked
returns-in_err-numbers-clause-asked g c =
    let p = err_from_is_err_and c.from_residual-in_err-numbers.result c.from_residual-in_err-numbers.ensures.1 in
    let Refused : Asked → ShelfFault → Type 0 = g.S.Shelf.refuses g.N.Naming.place in
    rw (p.1, p.2) (want_or (CollectRefused Refused c.args.self.now) c.in_err-numbers.field-0.0 (inl c.in_err-numbers.ensures.refused))

pub returns-in_err-remove_all-clause-asked : goal.returns-in_err-remove_all-clause-asked
returns-in_err-remove_all-clause-asked g c =
    let p = err_from_is_err_and c.from_residual-in_err-remove_all.result c.from_residual-in_err-remove_all.ensures.1 in
    let Refused : Asked → ShelfFault → Type 0 = g.S.Shelf.refuses g.N.Naming.place in
    let listed = c.in_ok-numbers.numbers.items in
    let kept = c.in_ok-kept.kept.items in
    let fault = c.in_err-remove_all.field-0.0 in
    let going : c.deref-2.result.now ≡ outside kept listed = c.deref-2.ensures.value ∙ (c.keep_outside.ensures ∙ ap (λ k. outside k listed) c.deref.ensures.value) in
    let asked = c.in_err-remove_all.ensures.asked in
    let free = outside_free c.args.self.now kept listed c.in_ok-kept.ensures.numbers asked.0 (subst (λ ns. Has ns asked.0) going asked.1) in
    rw (p.1, p.2)
    (want_or (CollectRefused Refused c.args.self.now) fault
    (inr (asked.0, free, asked.2)))

pub returns-clause-ok : goal.returns-clause-ok
returns-clause-ok g c =
    let listed = c.in_ok-numbers.numbers.items in
    let kept = c.in_ok-kept.kept.items in
    let was : Told = listing listed c.args.shelf.now in
    let mid : Told = c.list.new.self in
    let is : Told = c.remove_all.new.shelf in
    let going : c.deref-2.result.now ≡ outside kept listed = c.deref-2.ensures.value ∙ (c.keep_outside.ensures ∙ ap (λ k. outside k listed) c.deref.ensures.value) in
    record {
      listed = listed;
      kept = kept;
      kept_are = c.in_ok-kept.ensures.numbers;
      removed_are = c.in_ok-remove_all.ensures.ok.0 ∙ going;
      told = subst (λ ns. Becomes (removing_all ns was) is) (sym c.in_ok-remove_all.ensures.ok.0) (becomes_removing c.deref-2.result.now was mid is c.in_ok-numbers.ensures.ok c.in_ok-remove_all.ensures.ok.1);
    }
