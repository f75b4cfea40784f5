use Rattle.std.proofs.Common.{◌≡◌, List, ℕ, subst}
use Rattle.std.specs.Prelude.{Ok}
use Rattle.lsm_manifest.specs.EditReading.{edit_at}
use Rattle.lsm_repair.proofs.OldLaws.{edits_end, edits_more, edits_none, edits_stop, read_as}
use Rattle.lsm_repair.proofs.OldLaws.{read_none}
use Rattle.lsm_repair.proofs.old_manifest.first_edits.Goals as goal

pub loop-record-init : goal.loop-record-init
loop-record-init c = rw c.new-edits.ensures.items (edits_none c.args.records.now)

pub loop-record-preserved : goal.loop-record-preserved
loop-record-preserved c =
    let own = c.as_slice.result.now in
    let edit = c.in-Some.edit in
    let reads = subst (λ (t : List ℕ). edit_at t ≡ Ok edit) c.as_slice.ensures
    (read_as c.in_ok-found.found own edit c.in-Some.is c.in_ok-found.ensures) in
    edits_more c.args.records.now c.loop-record.record-index c.record-item.result
    c.loop-record.edits.items c.push.new.self.items edit c.loop-record-test.true c.record-item.is
    reads c.in_ok-push.ensures.items c.loop-record.invariant

pub returns-in_default : goal.returns-in_default
returns-in_default c =
    let none = rw c.as_slice.ensures at (read_none c.in_ok-found.found c.as_slice.result.now
    c.in_default.not-Some c.in_ok-found.ensures) in
    edits_stop c.args.records.now c.loop-record.record-index c.record-item.result
    c.loop-record.edits.items none.0 c.loop-record-test.true c.record-item.is none.1
    c.loop-record.invariant

pub returns : goal.returns
returns c =
    edits_end c.args.records.now c.loop-record.record-index c.loop-record.edits.items
    c.loop-record-test.false c.loop-record.invariant
