use Rattle.std.proofs.Common.{length, ◌∙◌}
use Rattle.std.specs.Int.{w32, w64, to_le_bytes}
use Rattle.lsm_wal.specs.Writing.{writes_text}
use Rattle.lsm_wal.proofs.WritingLaws.{pieces}
use Rattle.lsm_wal.proofs.batch_writer.push_batch.Goals as goal

pub returns : goal.returns
returns c =
    pieces c.args.out.now.items c.extend_from_slice.new.self.items
    c.extend_from_slice-2.new.self.items c.push_writes.new.out.items
    c.as_slice.result.now c.as_slice-2.result.now (writes_text c.args.writes.now)
    (to_le_bytes w64 c.args.first) (to_le_bytes w32 (length c.args.writes.now))
    c.in_ok-extend_from_slice.ensures.items c.in_ok-extend_from_slice-2.ensures.items
    c.in_ok-push_writes.ensures
    (c.as_slice.ensures ∙ c.to_le_bytes.ensures) (c.as_slice-2.ensures ∙ c.to_le_bytes-2.ensures)
