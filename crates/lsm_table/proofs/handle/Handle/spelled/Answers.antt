use Rattle.std.proofs.Common.{sym, ap, ◌∙◌}
use Rattle.lsm_codec.specs.Varint.{varint64_at}
use Rattle.lsm_table.proofs.HeldBlockLaws.{offset_read, size_read, first_is, second_is, same_handle}
use Rattle.lsm_table.proofs.handle.Handle.spelled.Goals as goal

pub unreachable-requires : goal.unreachable-requires
unreachable-requires c = let bad = sym c.in_default.ensures.reads ∙ offset_read c.args.bytes.now c.requires.0 c.requires.1 in absurd cc

pub unreachable-requires-in_default-get_varint64 : goal.unreachable-requires-in_default-get_varint64
unreachable-requires-in_default-get_varint64 c =
    let f = first_is c.args.bytes.now _ c.in-Ok.offset c.requires.0 c.requires.1 c.in-Ok.ensures.reads.0 in
    let rest = c.split_at.ensures.back ∙ f.1 in
    let bad = sym c.in_default-get_varint64.ensures.reads ∙ ap varint64_at rest ∙ size_read c.args.bytes.now c.requires.0 c.requires.1 in absurd cc

pub returns : goal.returns
returns c other h =
    let f = first_is c.args.bytes.now _ c.in-Ok.offset other h c.in-Ok.ensures.reads.0 in
    let s = second_is c.split_at.result.1.now _ c.in-Ok-get_varint64.size c.args.bytes.now other h (c.split_at.ensures.back ∙ f.1) c.in-Ok-get_varint64.ensures.reads.0 in
    same_handle c.in-Ok.offset c.in-Ok-get_varint64.size other f.0 s
