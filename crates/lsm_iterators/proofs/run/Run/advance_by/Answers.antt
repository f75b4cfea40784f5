use Rattle.std.proofs.Common.{rules, ◌≡◌, ◌∷◌, [], ℕ, Option, IfSome, false, ap, sym, subst, ◌∙◌, inr}
use Rattle.std.proofs.lemmas.Result.{err_from_is_err_and}
use Rattle.lsm_codec.specs.Lists.{Has}
use Rattle.lsm_block.specs.Standing.{IsMovedBy, but_first, is_end}
use Rattle.lsm_model.specs.Merging.{placed_at}
use Rattle.lsm_iterators.specs.Heads.{after_first}
use Rattle.lsm_iterators.specs.Runs.{HasEntries, InFile, IsFirst, IsFirstOf, IsOfFirst, Left, entries_of_all}
use Rattle.lsm_iterators.proofs.RunLaws.{all_rest, first_files, first_left, first_numbered, last_if_some, last_numbered, last_placed, of_first}
use Rattle.lsm_iterators.proofs.run.Run.advance_by.Goals as goal

pub invariant_of-self-in-Some : goal.invariant_of-self-in-Some
invariant_of-self-in-Some g c =
    let later = c.self.inside.later.images in
    let rest = c.pass.new.self.images in (
      last_if_some c.in-Some.here.left rest (search rules),
      λ honest. all_rest HasEntries later rest c.pass.ensures.images (c.self.invariant.1 honest),
    )

pub returns-in_err-here-clause-number : goal.returns-in_err-here-clause-number
returns-in_err-here-clause-number g c =
    let self = c.self.inside in
    let some : is_end self.here.left ≡ false = sym c.is_at_end.ensures ∙ c.if-is_at_end.false in
    let p = err_from_is_err_and c.from_residual.result c.from_residual.ensures.1 in
    rw (p.1, p.2) (subst (λ (l : Left). IsOfFirst l c.in_err-here.field-0.0.number) c.self.view_is
    (of_first self.depth c.in_err-here.field-0.0.number self.here.left (entries_of_all self.later.images) (self.here.number ∷ self.later.numbers) some
    (inr c.in_err-here.ensures.number)))

pub returns-in-Some-clause-ok : goal.returns-in-Some-clause-ok
returns-in-Some-clause-ok g c honest =
    let self = c.self.inside in
    let images = self.later.images in
    let some : is_end self.here.left ≡ false = sym c.is_at_end.ensures ∙ c.if-is_at_end.false in
    let moved = subst (λ (m : Option ℕ). IsMovedBy m self.here.left c.step_by.new.self.left) c.in-Ok-None.field-0-is (c.in-Ok-None.ensures.moved honest) in
    let last : but_first self.here.left ≡ [] = moved.0 in
    let first = subst (λ (o : Option InFile). IfSome o (λ t. IsFirstOf t.left images)) c.in-Some.is (c.in_ok-here.ensures.entries honest) in
    ap (placed_at self.depth) (first_left c.in-Some.here.left images c.pass.new.self.images first c.pass.ensures.images)
    ∙ sym (last_placed self.depth self.here.left (entries_of_all images) some last)
    ∙ ap (λ (l : Left). after_first l.placed) c.self.view_is

pub returns-in-Some-clause-numbered : goal.returns-in-Some-clause-numbered
returns-in-Some-clause-numbered g c honest =
    let self = c.self.inside in
    let images = self.later.images in
    let numbers = self.later.numbers in
    let some : is_end self.here.left ≡ false = sym c.is_at_end.ensures ∙ c.if-is_at_end.false in
    let moved = subst (λ (m : Option ℕ). IsMovedBy m self.here.left c.step_by.new.self.left) c.in-Ok-None.field-0-is (c.in-Ok-None.ensures.moved honest) in
    let last : but_first self.here.left ≡ [] = moved.0 in
    let first = subst (λ (o : Option InFile). IfSome o (λ t. IsFirstOf t.left images)) c.in-Some.is (c.in_ok-here.ensures.entries honest) in
    let own = subst (λ (o : Option InFile). IfSome o (λ t. IsFirst t.number numbers)) c.in-Some.is c.in_ok-here.ensures.first in
    first_numbered c.in-Some.here.number c.in-Some.here.left numbers c.pass.new.self.numbers images c.pass.new.self.images own first c.pass.ensures.numbers c.pass.ensures.images
    ∙ sym (last_numbered self.here.number self.here.left _ some last)
    ∙ ap (λ (l : Left). after_first l.numbered) c.self.view_is

pub returns-in-Some-clause-files : goal.returns-in-Some-clause-files
returns-in-Some-clause-files g c f h =
    let self = c.self.inside in
    let numbers = self.later.numbers in
    let own = subst (λ (o : Option InFile). IfSome o (λ t. IsFirst t.number numbers)) c.in-Some.is c.in_ok-here.ensures.first in
    subst (λ (l : Left). Has l.files f) c.self.view_is (inr (first_files self.depth c.in-Some.here.number numbers c.pass.new.self.numbers f own c.pass.ensures.numbers h))
