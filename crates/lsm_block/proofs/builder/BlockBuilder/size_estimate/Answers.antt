use Rattle.std.proofs.Common.{◌≡◌, ◌+◌, length, subst, arith}
use Rattle.lsm_block.specs.Building.{Building, block_bytes, entries_in}
use Rattle.lsm_block.proofs.BuildLaws.{length-built}
use Rattle.lsm_block.proofs.builder.BlockBuilder.size_estimate.Goals as goal

pub returns : goal.returns
returns c =
    let s = c.self.inside in
    subst (λ (b : Building). c.len.result + c.len-2.result + 8 ≡ length (block_bytes b.interval b.entries)) c.self.view_is
    (omega (arith, c.len.ensures, c.len-2.ensures, s.text.ok.0, s.offsets.ok.0, length-built s.interval s.count (entries_in s.text.items) s.text.items s.offsets.items s.last.items c.self.invariant))
