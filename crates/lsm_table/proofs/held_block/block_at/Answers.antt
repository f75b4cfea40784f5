use Rattle.std.proofs.Common.{ℕ, List, sym, ap, ◌∙◌, take, subst}
use Rattle.lsm_block.specs.Block.{IsBlock}
use Rattle.lsm_block.specs.Held.{held, block_in}
use Rattle.lsm_table.proofs.HeldBlockLaws.{is_there, held_there}
use Rattle.lsm_table.proofs.held_block.block_at.Goals as goal

pub of-requires : goal.of-requires
of-requires c =
    let same = c.split_at-2.ensures.front ∙ ap (take c.args.handle.size) c.split_at.ensures.back in
    subst (λ (xs : List ℕ). IsBlock xs (held xs)) (sym same) (is_there c.args.body.now c.args.handle c.requires.0 c.requires.1)

pub returns-clause-entries : goal.returns-clause-entries
returns-clause-entries c es b =
    let same = c.split_at-2.ensures.front ∙ ap (take c.args.handle.size) c.split_at.ensures.back in
    c.of.ensures.entries ∙ ap held same ∙ held_there c.args.body.now c.args.handle es b

pub returns-clause-block : goal.returns-clause-block
returns-clause-block c =
    let same = c.split_at-2.ensures.front ∙ ap (take c.args.handle.size) c.split_at.ensures.back in
    c.of.ensures.block ∙ ap block_in same
