use Rattle.std.proofs.Common.{rules, ◌≡◌, ◌∙◌, ◌⊎◌, ◌<◌, length, inl, inr}
use Rattle.lsm_iterators.proofs.FrontLaws.{cmp_first, cmp_lengths}
use Rattle.lsm_iterators.proofs.front.compare_first.Goals.{then-is_empty-via-then-is_empty, then-is_empty-via-else-is_empty+then-is_empty-2}
use Rattle.lsm_iterators.proofs.front.compare_first.Goals as goal

pub returns-then-is_empty : goal.returns-then-is_empty
returns-then-is_empty c =
    let none : (length c.args.a.now ≡ 0) ⊎ (length c.args.b.now ≡ 0) = elim c.then-is_empty.branch [
      | then-is_empty-via-then-is_empty w ↦ inl (search rules)
      | then-is_empty-via-else-is_empty+then-is_empty-2 w ↦ inr (search rules)
    ] in
    c.cmp.ensures ∙ cmp_lengths c.args.a.now c.args.b.now none

pub returns : goal.returns
returns c =
    let first : 0 < length c.args.a.now = search rules in
    let second : 0 < length c.args.b.now = search rules in
    c.cmp-2.ensures ∙ cmp_first c.args.a.now c.args.b.now first second c.requires
