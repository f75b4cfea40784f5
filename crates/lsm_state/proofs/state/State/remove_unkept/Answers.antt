use Rattle.std.proofs.Common.{◌≡◌, true, false, refl, sym, ◌∙◌, ap, subst}
use Rattle.std.specs.List.Sorted.{IsStrictlyIncreasing}
use Rattle.std.proofs.lemmas.Result.{err_from_is_err_and}
use Rattle.lsm_state.specs.Collecting.{IsKeptNumber, is_in}
use Rattle.lsm_state.specs.Held.{Held}
use Rattle.lsm_state.proofs.Numbers.{among_kept, not_among_kept}
use Rattle.lsm_state.proofs.state.State.remove_unkept.Goals as goal

pub returns-then-is_among-clause-ok : goal.returns-then-is_among-clause-ok
returns-then-is_among-clause-ok g c =
    let h : Held = c.args.self.now in
    let going : h.halted ≡ false = ap (λ (x : Held). x.halted) (sym c.self.view_is) ∙ c.if-self.false in
    let up : IsStrictlyIncreasing c.deref.result.now = subst (λ l. IsStrictlyIncreasing l) (sym c.deref.ensures.value) c.in_ok-kept.ensures.ascending in
    let found : is_in c.in_ok-kept.kept.items c.args.number ≡ true = subst (λ l. is_in l c.args.number ≡ true) c.deref.ensures.value (sym (c.is_among.ensures up) ∙ c.if-is_among.true) in
    (going, (among_kept h c.in_ok-kept.kept.items c.args.number c.in_ok-kept.ensures.numbers found, refl))

pub returns-in_err-remove-clause-refused : goal.returns-in_err-remove-clause-refused
returns-in_err-remove-clause-refused g c =
    let h : Held = c.args.self.now in
    let going : h.halted ≡ false = ap (λ (x : Held). x.halted) (sym c.self.view_is) ∙ c.if-self.false in
    let up : IsStrictlyIncreasing c.deref.result.now = subst (λ l. IsStrictlyIncreasing l) (sym c.deref.ensures.value) c.in_ok-kept.ensures.ascending in
    let none : is_in c.in_ok-kept.kept.items c.args.number ≡ false = subst (λ l. is_in l c.args.number ≡ false) c.deref.ensures.value (sym (c.is_among.ensures up) ∙ c.if-is_among.false) in
    let unkept : IsKeptNumber h c.args.number → ⊥ = not_among_kept h c.in_ok-kept.kept.items c.args.number c.in_ok-kept.ensures.numbers none in
    let p = err_from_is_err_and c.from_residual-in_err-remove.result c.from_residual-in_err-remove.ensures.1 in
    rw (p.1, p.2) (going, unkept, c.in_err-remove.ensures.told, c.in_err-remove.ensures.counts)

pub returns-clause-ok : goal.returns-clause-ok
returns-clause-ok g c =
    let h : Held = c.args.self.now in
    let going : h.halted ≡ false = ap (λ (x : Held). x.halted) (sym c.self.view_is) ∙ c.if-self.false in
    let up : IsStrictlyIncreasing c.deref.result.now = subst (λ l. IsStrictlyIncreasing l) (sym c.deref.ensures.value) c.in_ok-kept.ensures.ascending in
    let none : is_in c.in_ok-kept.kept.items c.args.number ≡ false = subst (λ l. is_in l c.args.number ≡ false) c.deref.ensures.value (sym (c.is_among.ensures up) ∙ c.if-is_among.false) in
    (going, (not_among_kept h c.in_ok-kept.kept.items c.args.number c.in_ok-kept.ensures.numbers none, c.in_ok-remove.ensures.told))
