use Rattle.std.proofs.Common.{◌≡◌, ℕ, List, ◌++◌, ap, ◌∙◌, subst}
use Rattle.std.specs.Prelude.{OnOk}
use Rattle.lsm_block.specs.Block.{IsBlock}
use Rattle.lsm_block.specs.Building.{Building, block_bytes, entries_in}
use Rattle.lsm_block.proofs.BuildLaws.{pushed, is_block}
use Rattle.lsm_block.proofs.builder.BlockBuilder.write_to.Goals as goal

pub returns-clause-ok : goal.returns-clause-ok
returns-clause-ok c =
    let s = c.self.inside in
    let parts = pushed s.interval s.count (entries_in s.text.items) s.text.items s.offsets.items s.last.items c.self.invariant ∙ ap (λ (b : Building). block_bytes b.interval b.entries) c.self.view_is in
    subst (λ (xs : List ℕ). OnOk c.push_block.result (c.push_block.new.out.items ≡ c.args.out.now.items ++ xs)) parts (rw (c.deref.ensures.value, c.deref-2.ensures.value) at c.push_block.ensures.ok)

pub returns-clause-block : goal.returns-clause-block
returns-clause-block c =
    let s = c.self.inside in
    subst (λ (b : Building). IsBlock (block_bytes b.interval b.entries) b.entries) c.self.view_is (is_block s.interval s.count (entries_in s.text.items) s.text.items s.offsets.items s.last.items c.self.invariant)
