use Rattle.std.proofs.Common.{◌≡◌, Some, None, refl, ap, ◌∙◌, inr}
use Rattle.std.specs.Option.{option_map}
use Rattle.lsm_block.specs.Held.{Position}
use Rattle.lsm_table.specs.HeldTable.{Walk}
use Rattle.lsm_table.proofs.IterLaws.{on_err_any, entered, stays, steps_in}
use Rattle.lsm_table.proofs.table_iter.TableIter.next.Goals as goal

pub invariant_of-self-in_err-next : goal.invariant_of-self-in_err-next
invariant_of-self-in_err-next c =
    let i = c.self.inside in
    let is : option_map (λ v. v.now) c.in_ok-spelled.field-0 ≡ Some c.in-Some-2.spelled.now = rw c.in-Some-2.is refl in
    (entered i.body.now i.index c.data_block-self-inside.result i.next_block c.next-2.new.cursor _ c.in-Some-2.spelled.now c.self.invariant c.in_ok-spelled.ensures.given is c.data_block-self-inside.ensures).named

pub returns-in_err-next-clause-err : goal.returns-in_err-next-clause-err
returns-in_err-next-clause-err c =
    let i = c.self.inside in
    let none : option_map (λ v. v.now) c.in_ok-value.field-0 ≡ None = rw c.in_default.is refl in
    let is : option_map (λ v. v.now) c.in_ok-spelled.field-0 ≡ Some c.in-Some-2.spelled.now = rw c.in-Some-2.is refl in
    let e = entered i.body.now i.index c.data_block-self-inside.result i.next_block c.next-2.new.cursor _ c.in-Some-2.spelled.now c.self.invariant c.in_ok-spelled.ensures.given is c.data_block-self-inside.ensures in
    let left = stays i.body.now i.block i.index c.data_block-self-inside.result i.here c.next.new.cursor i.next_block c.next-2.new.cursor c.rewind.new.cursor c.next-3.new.cursor _ c.args.self.now
    c.in_ok-value.ensures.given none (ap (λ (w : Walk). w.left) c.self.view_is) e c.rewind.ensures.rest c.in_err-next.ensures.err in
    let last : c.next-3.new.cursor.last ≡ None = ap (λ (p : Position). p.last) (c.in_err-next.ensures.err ∙ c.rewind.ensures.front) in
    on_err_any c.from_residual-in_err-next.result _ (record { left = left; last = inr last })

pub invariant_of-self-2 : goal.invariant_of-self-2
invariant_of-self-2 c =
    let i = c.self.inside in
    let is : option_map (λ v. v.now) c.in_ok-spelled.field-0 ≡ Some c.in-Some-2.spelled.now = rw c.in-Some-2.is refl in
    (entered i.body.now i.index c.data_block-self-inside.result i.next_block c.next-2.new.cursor _ c.in-Some-2.spelled.now c.self.invariant c.in_ok-spelled.ensures.given is c.data_block-self-inside.ensures).named

pub returns-clause-given : goal.returns-clause-given
returns-clause-given c =
    let i = c.self.inside in
    let none : option_map (λ v. v.now) c.in_ok-value.field-0 ≡ None = rw c.in_default.is refl in
    let is : option_map (λ v. v.now) c.in_ok-spelled.field-0 ≡ Some c.in-Some-2.spelled.now = rw c.in-Some-2.is refl in
    let e = entered i.body.now i.index c.data_block-self-inside.result i.next_block c.next-2.new.cursor _ c.in-Some-2.spelled.now c.self.invariant c.in_ok-spelled.ensures.given is c.data_block-self-inside.ensures in
    steps_in i.body.now i.block i.index c.data_block-self-inside.result i.here c.next.new.cursor i.next_block c.next-2.new.cursor c.rewind.new.cursor c.next-3.new.cursor _ c.args.self.now _
    c.in_ok-value.ensures.given none (ap (λ (w : Walk). w.left) c.self.view_is) e c.rewind.ensures.rest c.in_ok-next.ensures.given
