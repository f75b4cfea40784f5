use Rattle.std.proofs.Common.{List, sym, ap, ◌∙◌, subst, take}
use Rattle.lsm_codec.specs.Entries.{Entry}
use Rattle.lsm_block.specs.Block.{IsBlock}
use Rattle.lsm_block.specs.Held.{text_and_entries}
use Rattle.lsm_block.proofs.HeldLaws.{held_at, held_is, is_ok, still_fails}
use Rattle.lsm_block.proofs.check.check_bytes.Goals as goal

pub returns-in-Ok-clause-found : goal.returns-in-Ok-clause-found
returns-in-Ok-clause-found c =
    let es = (text_and_entries (take c.in-Ok.field-0 c.args.bytes.now)).entries in
    subst (λ (xs : List Entry). IsBlock c.args.bytes.now xs) (sym (held_is c.args.bytes.now es (held_at c.args.bytes.now c.in-Ok.field-0 es c.in-Ok.ensures.holds))) c.in-Ok.ensures.holds.block

pub returns-in-Ok-clause-exact : goal.returns-in-Ok-clause-exact
returns-in-Ok-clause-exact c =
    let es = (text_and_entries (take c.in-Ok.field-0 c.args.bytes.now)).entries in
    let read = held_at c.args.bytes.now c.in-Ok.field-0 es c.in-Ok.ensures.holds in
    read ∙ ap (λ (xs : List Entry). is_ok xs) (sym (held_is c.args.bytes.now es read))

pub returns-clause-only : goal.returns-clause-only
returns-clause-only c es b = still_fails c.in-Err.fault c.args.bytes.now es b c.in-Err.ensures.fault
