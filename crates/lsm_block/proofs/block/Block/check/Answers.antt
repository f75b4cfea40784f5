use Rattle.std.proofs.Common.{take}
use Rattle.lsm_block.specs.Held.{text_and_entries}
use Rattle.lsm_block.proofs.HeldLaws.{held_at, held_block, same_entries, still_fails}
use Rattle.lsm_block.proofs.block.Block.check.Goals as goal

pub returns-in-Ok-clause-only : goal.returns-in-Ok-clause-only
returns-in-Ok-clause-only c es b =
    let holds = rw c.deref.ensures.value at c.in-Ok.ensures.holds in
    same_entries c.args.bytes.items c.in-Ok.text_len (text_and_entries (take c.in-Ok.text_len c.args.bytes.items)).entries es holds b

pub returns-in-Ok-clause-exact : goal.returns-in-Ok-clause-exact
returns-in-Ok-clause-exact c =
    let holds = rw c.deref.ensures.value at c.in-Ok.ensures.holds in
    held_at c.args.bytes.items c.in-Ok.text_len (text_and_entries (take c.in-Ok.text_len c.args.bytes.items)).entries holds

pub returns-in-Ok-clause-block : goal.returns-in-Ok-clause-block
returns-in-Ok-clause-block c = held_block c.args.bytes.items c.in-Ok.text_len _ (rw c.deref.ensures.value at c.in-Ok.ensures.holds)

pub returns-in-Err-clause-only : goal.returns-in-Err-clause-only
returns-in-Err-clause-only c es b = still_fails c.in-Err.fault c.args.bytes.items es b (rw c.deref.ensures.value at c.in-Err.ensures.fault)
