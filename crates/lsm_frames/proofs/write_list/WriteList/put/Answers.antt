use Rattle.std.proofs.Common.{[], length, Some, refl, sym, ap, ◌∙◌, arith}
use Rattle.std.proofs.lemmas.Bool.{leb-true, leb-false}
use Rattle.std.proofs.lemmas.Result.{err_from_is_err_and}
use Rattle.std.proofs.lemmas.List.{length-append}
use Rattle.lsm_frames.specs.Requests.{FitsWritten, written_text}
use Rattle.lsm_frames.specs.Reading.{written_at}
use Rattle.lsm_frames.specs.Held.{held}
use Rattle.lsm_frames.proofs.FieldLaws.{written_format}
use Rattle.lsm_frames.proofs.HeldLaws.{holds_more, length-written, long_writes}
use Rattle.lsm_frames.proofs.write_list.WriteList.put.Goals as goal

pub invariant_of-self-2 : goal.invariant_of-self-2
invariant_of-self-2 c =
    let room = leb-true _ _ (sym c.has_room.ensures ∙ c.if-not-has_room.false) in
    (holds_more written_at written_text FitsWritten written_format [] 0 (held written_at 0 c.self.inside.bytes.items) (record { key = c.args.key.now; value = Some c.args.value.now }) c.self.inside.bytes.items c.put_written.new.out.items refl c.self.invariant (omega arith, omega arith) c.in_ok-put_written.ensures.ok
    (omega (arith, room, ap length c.in_ok-put_written.ensures.ok, length-append c.self.inside.bytes.items (written_text (record { key = c.args.key.now; value = Some c.args.value.now })), length-written c.args.key.now c.args.value.now))).1

pub returns-clause-ok : goal.returns-clause-ok
returns-clause-ok c =
    let room = leb-true _ _ (sym c.has_room.ensures ∙ c.if-not-has_room.false) in
    rw (← c.self.view_is) (holds_more written_at written_text FitsWritten written_format [] 0 (held written_at 0 c.self.inside.bytes.items) (record { key = c.args.key.now; value = Some c.args.value.now }) c.self.inside.bytes.items c.put_written.new.out.items refl c.self.invariant (omega arith, omega arith) c.in_ok-put_written.ensures.ok
    (omega (arith, room, ap length c.in_ok-put_written.ensures.ok, length-append c.self.inside.bytes.items (written_text (record { key = c.args.key.now; value = Some c.args.value.now })), length-written c.args.key.now c.args.value.now))).0

pub returns-then-not-has_room-clause-long : goal.returns-then-not-has_room-clause-long
returns-then-not-has_room-clause-long c =
    let full = leb-false _ _ (sym c.has_room.ensures ∙ c.if-not-has_room.true) in
    λ e. rw (← c.self.view_is) (long_writes (held written_at 0 c.self.inside.bytes.items) (record { key = c.args.key.now; value = Some c.args.value.now }) c.self.inside.bytes.items c.self.invariant (omega (arith, full, length-written c.args.key.now c.args.value.now)))

pub returns-in_err-put_written-clause-long : goal.returns-in_err-put_written-clause-long
returns-in_err-put_written-clause-long c = λ e. let p = err_from_is_err_and c.from_residual.result c.from_residual.ensures.1 in absurd (cc (p.1, p.2, e))
