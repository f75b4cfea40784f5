use Rattle.std.proofs.Common.{◌≡◌, ◌+◌, ◌-◌, ◌∷◌, Some, ◌++◌, [], replicate, ap, ◌∙◌, arith}
use Rattle.std.proofs.lemmas.List.{replicate-append-replicate}
use Rattle.lsm_pins.specs.SlotRecord.{slot_record, unused}
use Rattle.lsm_pins.proofs.board.first_records.Goals as goal

pub loop-number-preserved : goal.loop-number-preserved
loop-number-preserved c =
    let n = c.loop-number.number in
    let at_least = c.loop-number.auto.number in
    let grown = c.in_ok-push-2.ensures.items in
    let longer : replicate (n - 1) unused ++ unused ∷ [] ≡ replicate (n + 1 - 1) unused = replicate-append-replicate (n - 1) 1 unused ∙ ap (λ k. replicate k unused) (omega arith) in
    grown ∙ ap (λ l. l ++ unused ∷ []) c.loop-number.invariant ∙ ap (λ l. slot_record (Some c.args.id) 0 ∷ l) longer
