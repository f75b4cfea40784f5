use Rattle.std.proofs.Common.{sym, ◌∙◌, length}
use Rattle.lsm_block.specs.Held.{held}
use Rattle.lsm_block.proofs.HeldLaws.{some_parts, holds_found, holds_itself, holds_entries, found_block}
use Rattle.lsm_block.proofs.block_ref.BlockRef.of.Goals as goal

pub unreachable-requires : goal.unreachable-requires
unreachable-requires c = some_parts c.args.bytes.now (held c.args.bytes.now) c.requires (rw c.in_default.is at c.parts.ensures.reads)

pub at-requires : goal.at-requires
at-requires c =
    let read = rw c.in-Some.is at c.parts.ensures.reads in
    holds_itself c.args.bytes.now (length c.in-Some.text.now) (held c.args.bytes.now) (holds_found c.args.bytes.now c.in-Some.text.now _ (held c.args.bytes.now) c.requires (sym read))

pub returns-clause-entries : goal.returns-clause-entries
returns-clause-entries c =
    let read = rw c.in-Some.is at c.parts.ensures.reads in
    rw c.at.ensures (holds_entries c.args.bytes.now (length c.in-Some.text.now) (held c.args.bytes.now) (holds_found c.args.bytes.now c.in-Some.text.now _ (held c.args.bytes.now) c.requires (sym read)))

pub returns-clause-block : goal.returns-clause-block
returns-clause-block c =
    let read = rw c.in-Some.is at c.parts.ensures.reads in
    c.at.ensures ∙ found_block c.args.bytes.now c.in-Some.text.now _ (held c.args.bytes.now) c.requires (sym read)
