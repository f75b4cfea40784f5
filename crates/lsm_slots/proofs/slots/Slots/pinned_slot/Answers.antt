use Rattle.std.proofs.Common.{◌≡◌, ◌∙◌, Some, true, false, sym, ap, inl, inr, arith}
use Rattle.std.specs.Prelude.{slice_get}
use Rattle.std.proofs.lemmas.Bool.{cases_lt}
use Rattle.std.proofs.lemmas.Option.{slice_get_within}
use Rattle.lsm_slots.specs.Slots.{Slotted}
use Rattle.lsm_slots.proofs.slots.Slots.pinned_slot.Goals as goal

pub loop-slot-preserved : goal.loop-slot-preserved
loop-slot-preserved g c i e lt at its some = elim (cases_lt i c.loop-slot.slot) [
  | inl before ↦ c.loop-slot.invariant i e before at its some
  | inr le ↦ (
      let same : i ≡ c.loop-slot.slot = omega arith in
      let here : slice_get c.as_slice.result.now c.loop-slot.slot ≡ Some (Some e) =
      ap (λ es. slice_get es c.loop-slot.slot) c.as_slice.ensures.value ∙ (ap (λ (v : Slotted). slice_get v.epochs c.loop-slot.slot) c.self.view_is ∙ (ap (slice_get c.args.self.now.epochs) (sym same) ∙ at)) in
      let yes : c.is_pinned_at.result ≡ true = c.is_pinned_at.ensures.1 (e, here, its, some) in
      let no : c.is_pinned_at.result ≡ false = c.if-is_pinned_at.false in
      let both : true ≡ false = sym yes ∙ no in
      cc)
]

pub returns-clause-none : goal.returns-clause-none
returns-clause-none g c p =
    let lt = slice_get_within c.args.self.now.epochs p.slot (Some p.epoch) p.had in
    let n = c.count-slot-end.ensures in
    let past = c.loop-slot-test.false in
    c.loop-slot.invariant p.slot p.epoch (omega arith) p.had p.its p.some
