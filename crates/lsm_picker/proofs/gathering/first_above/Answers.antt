use Rattle.std.proofs.Common.{ℕ, ◌+◌, sym, ◌∙◌, subst, take, inl, inr}
use Rattle.lsm_picker.specs.Gathering.{IsFirstAbove, IsGreater, IsLesser}
use Rattle.lsm_picker.proofs.GatheringLaws.{above_more, above_same}
use Rattle.lsm_picker.proofs.gathering.first_above.Goals as goal
use Rattle.lsm_picker.proofs.gathering.first_above.Goals.{then-is_greater+then-is_lesser, else-is_greater, else-is_greater-via-then-is_greater+else-is_lesser, else-is_greater-via-else-is_greater}

pub loop-table-preserved : goal.loop-table-preserved
loop-table-preserved g c =
    let last = c.args.last in
    let ts = c.args.tables.now in
    let i = c.loop-table.table-index in
    let x = c.table-item.result in
    let number = c.number-number.ensures ∙ c.record.ensures.number in
    elim c.if-is_greater.branch [
      | then-is_greater+then-is_lesser w ↦ subst (IsFirstAbove last ts (take (i + 1) ts)) (sym w.least-is)
          (above_more ts i x c.loop-table-test.true c.table-item.is last c.loop-table.least c.number-number.result number
          (c.is_greater.ensures.0 w.if-is_greater.true) (w.is_lesser.ensures.0 w.if-is_lesser.true) c.loop-table.invariant)
      | else-is_greater w ↦ subst (IsFirstAbove last ts (take (i + 1) ts)) (sym w.least-is)
          (above_same ts i x c.loop-table-test.true c.table-item.is last c.loop-table.least (elim w.else-is_greater.branch [
            | else-is_greater-via-then-is_greater+else-is_lesser w' ↦ inr (λ lesser.
                let yes = w'.is_lesser.ensures.1 (subst (λ (n : ℕ). IsLesser n c.loop-table.least) (sym number) lesser) in
                let off = w'.if-is_lesser.false in
                absurd (cc (yes, off)))
            | else-is_greater-via-else-is_greater w' ↦ inl (λ greater.
                let yes = c.is_greater.ensures.1 (subst (λ (n : ℕ). IsGreater n last) (sym number) greater) in
                let off = w'.if-is_greater.false in
                absurd (cc (yes, off)))
          ]) c.loop-table.invariant)
    ]
