use Rattle.std.proofs.Common.{take}
use Rattle.lsm_block.specs.Held.{text_and_entries}
use Rattle.lsm_block.proofs.HeldLaws.{holds_parts}
use Rattle.lsm_block.proofs.block_ref.BlockRef.at.Goals as goal

pub invariant_of-result : goal.invariant_of-result
invariant_of-result c =
    rw (c.split_at-2.ensures.front, c.split_at.ensures.front, c.split_at.ensures.back)
    (holds_parts c.args.bytes.now c.args.text_len (text_and_entries (take c.args.text_len c.args.bytes.now)).entries c.requires)
