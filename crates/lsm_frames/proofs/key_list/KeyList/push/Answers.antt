use Rattle.std.proofs.Common.{[], length, refl, sym, ap, ◌∙◌, arith}
use Rattle.std.proofs.lemmas.Bool.{leb-true, leb-false}
use Rattle.std.proofs.lemmas.Result.{err_from_is_err_and}
use Rattle.std.proofs.lemmas.List.{length-append}
use Rattle.lsm_frames.specs.Texts.{text}
use Rattle.lsm_frames.specs.Requests.{FitsText}
use Rattle.lsm_frames.specs.Reading.{text_at}
use Rattle.lsm_frames.specs.Held.{held}
use Rattle.lsm_frames.proofs.FieldLaws.{text_format, length-text}
use Rattle.lsm_frames.proofs.HeldLaws.{holds_more, long_reads}
use Rattle.lsm_frames.proofs.key_list.KeyList.push.Goals as goal

pub invariant_of-self-2 : goal.invariant_of-self-2
invariant_of-self-2 c =
    let room = leb-true _ _ (sym c.has_room.ensures ∙ c.if-not-has_room.false) in
    (holds_more text_at text FitsText text_format [] 0 (held text_at 0 c.self.inside.bytes.items) c.args.key.now c.self.inside.bytes.items c.put_text.new.out.items refl c.self.invariant (omega arith) c.in_ok-put_text.ensures.ok
    (omega (arith, room, ap length c.in_ok-put_text.ensures.ok, length-append c.self.inside.bytes.items (text c.args.key.now), length-text c.args.key.now))).1

pub returns-clause-ok : goal.returns-clause-ok
returns-clause-ok c =
    let room = leb-true _ _ (sym c.has_room.ensures ∙ c.if-not-has_room.false) in
    rw (← c.self.view_is) (holds_more text_at text FitsText text_format [] 0 (held text_at 0 c.self.inside.bytes.items) c.args.key.now c.self.inside.bytes.items c.put_text.new.out.items refl c.self.invariant (omega arith) c.in_ok-put_text.ensures.ok
    (omega (arith, room, ap length c.in_ok-put_text.ensures.ok, length-append c.self.inside.bytes.items (text c.args.key.now), length-text c.args.key.now))).0

pub returns-then-not-has_room-clause-long : goal.returns-then-not-has_room-clause-long
returns-then-not-has_room-clause-long c =
    let full = leb-false _ _ (sym c.has_room.ensures ∙ c.if-not-has_room.true) in
    λ when e. rw (← c.self.view_is) (long_reads when (held text_at 0 c.self.inside.bytes.items) c.args.key.now c.self.inside.bytes.items c.self.invariant (omega (arith, full, length-text c.args.key.now)))

pub returns-in_err-put_text-clause-long : goal.returns-in_err-put_text-clause-long
returns-in_err-put_text-clause-long c = λ when e. let p = err_from_is_err_and c.from_residual.result c.from_residual.ensures.1 in absurd (cc (p.1, p.2, e))
