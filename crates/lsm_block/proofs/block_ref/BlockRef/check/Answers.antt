use Rattle.std.proofs.Common.{None, ap, sym, ◌∙◌, take, arith}
use Rattle.std.proofs.lemmas.List.{length-take-le}
use Rattle.lsm_block.specs.Held.{HeldBlock, text_and_entries, rest_of, bytes_of, last_after}
use Rattle.lsm_block.proofs.HeldLaws.{held_at, held_block, is_ok, same_entries, still_fails, sizes}
use Rattle.lsm_block.proofs.SeekLaws.{scan_ends}
use Rattle.lsm_block.proofs.block_ref.BlockRef.check.Goals as goal

pub returns-in-Ok-clause-only : goal.returns-in-Ok-clause-only
returns-in-Ok-clause-only c es b =
    same_entries c.args.bytes.now c.in-Ok.text_len (text_and_entries (take c.in-Ok.text_len c.args.bytes.now)).entries es c.in-Ok.ensures.holds b
    ∙ ap (λ (h : HeldBlock). is_ok h.entries) (sym c.at.ensures)

pub returns-in-Ok-clause-exact : goal.returns-in-Ok-clause-exact
returns-in-Ok-clause-exact c =
    held_at c.args.bytes.now c.in-Ok.text_len (text_and_entries (take c.in-Ok.text_len c.args.bytes.now)).entries c.in-Ok.ensures.holds
    ∙ ap (λ (h : HeldBlock). is_ok h.entries) (sym c.at.ensures)

pub returns-in-Ok-clause-rest : goal.returns-in-Ok-clause-rest
returns-in-Ok-clause-rest c =
    let text = take c.in-Ok.text_len c.args.bytes.now in
    let last = last_after None (text_and_entries text).entries in
    ap (λ (h : HeldBlock). rest_of h c.judge.new.self) c.at.ensures
    ∙ ap (rest_of (text_and_entries text)) c.in-Ok.ensures.last
    ∙ scan_ends text (bytes_of last) c.in-Ok.text_len (omega (arith, length-take-le c.in-Ok.text_len c.args.bytes.now (sizes c.args.bytes.now c.in-Ok.text_len _ c.in-Ok.ensures.holds).within))

pub returns-in-Ok-clause-block : goal.returns-in-Ok-clause-block
returns-in-Ok-clause-block c = c.at.ensures ∙ held_block c.args.bytes.now c.in-Ok.text_len _ c.in-Ok.ensures.holds

pub returns-in-Err-clause-only : goal.returns-in-Err-clause-only
returns-in-Err-clause-only c es b = still_fails c.in-Err.fault c.args.bytes.now es b c.in-Err.ensures.fault
