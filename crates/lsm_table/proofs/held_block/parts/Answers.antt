use Rattle.std.proofs.Common.{◌≡◌, ℕ, List, Ok, sym, subst}
use Rattle.lsm_codec.specs.Entries.{Entry}
use Rattle.lsm_table.specs.HeldTable.{BlockAt}
use Rattle.lsm_table.specs.Footer.{body_of}
use Rattle.lsm_table.specs.OpenTable.{opening_at}
use Rattle.lsm_table.proofs.OpenLaws.{opening_is}
use Rattle.lsm_table.proofs.held_block.parts.Goals as goal

pub returns-clause-index : goal.returns-clause-index
returns-clause-index c =
    let o = c.requires in
    let body : c.split_at.result.0.now ≡ body_of c.args.file.now = c.split_at.ensures.front in
    let same = c.block_at.ensures.entries o.entries (subst (λ (xs : List ℕ). BlockAt xs c.args.index o.entries) (sym body) o.block) in
    subst (λ (es : List Entry). opening_at c.args.file.now ≡ Ok es) (sym same) (opening_is c.args.file.now c.args.index o.entries o o.block)
