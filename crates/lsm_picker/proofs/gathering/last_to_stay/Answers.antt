use Rattle.std.proofs.Common.{ℕ, ◌+◌, sym, ◌∙◌, subst, take, inl, inr}
use Rattle.lsm_picker.specs.Gathering.{IsGreater, IsLastToStay}
use Rattle.lsm_picker.proofs.GatheringLaws.{stay_more, stay_same}
use Rattle.lsm_picker.proofs.gathering.last_to_stay.Goals as goal
use Rattle.lsm_picker.proofs.gathering.last_to_stay.Goals.{then-is_greater+then-not-joins, else-is_greater, else-is_greater-via-then-is_greater+else-not-joins, else-is_greater-via-else-is_greater}

pub loop-table-preserved : goal.loop-table-preserved
loop-table-preserved g c =
    let target = c.args.target_size in
    let rs = c.args.live.now in
    let ts = c.args.tables.now in
    let i = c.loop-table.table-index in
    let x = c.table-item.result in
    let number = c.number-number.ensures ∙ c.record.ensures.number in
    elim c.if-is_greater.branch [
      | then-is_greater+then-not-joins w ↦ subst (IsLastToStay target rs ts (take (i + 1) ts)) (sym w.last-is)
          (stay_more target rs ts i x c.loop-table-test.true c.table-item.is c.loop-table.last c.number-number.result number
          (c.is_greater.ensures.0 w.if-is_greater.true)
          (λ joins. (let yes = w.joins.ensures.1 joins in let off = w.if-not-joins.true in absurd (cc (yes, off))))
          c.loop-table.invariant)
      | else-is_greater w ↦ subst (IsLastToStay target rs ts (take (i + 1) ts)) (sym w.last-is)
          (stay_same target rs ts i x c.loop-table-test.true c.table-item.is c.loop-table.last (elim w.else-is_greater.branch [
            | else-is_greater-via-then-is_greater+else-not-joins w' ↦ inl (w'.joins.ensures.0 (cc w'.if-not-joins.false))
            | else-is_greater-via-else-is_greater w' ↦ inr (λ greater.
                let yes = c.is_greater.ensures.1 (subst (λ (n : ℕ). IsGreater n c.loop-table.last) (sym number) greater) in
                let off = w'.if-is_greater.false in
                absurd (cc (yes, off)))
          ]) c.loop-table.invariant)
    ]
