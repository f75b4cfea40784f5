use Rattle.std.proofs.Common.{Less, Equal, Greater, refl, sym, ◌∙◌, arith}
use Rattle.lsm_block.proofs.EntryLaws.{IsBytes-drop}
use Rattle.lsm_block.proofs.OrderByWords.{by_eight}
use Rattle.lsm_block.proofs.key.compare.Goals as goal

pub returns-in-Less : goal.returns-in-Less
returns-in-Less c =
    let a = c.split_at.ensures in
    let b = c.split_at-in-loop-left.ensures in
    let e = by_eight c.loop-left.left.now c.loop-left.right.now _ _ _ _ c.high_first.result
    c.high_first-in-loop-left.result Less a.front a.back b.front b.back
    c.loop-left.invariant.1 c.loop-left.invariant.2 (omega arith)
    (omega arith) c.high_first.ensures c.high_first-in-loop-left.ensures
    (sym c.cmp.ensures ∙ c.in-Less.is) in
    sym e ∙ c.loop-left.invariant.0

pub returns-in-Greater : goal.returns-in-Greater
returns-in-Greater c =
    let a = c.split_at.ensures in
    let b = c.split_at-in-loop-left.ensures in
    let e = by_eight c.loop-left.left.now c.loop-left.right.now _ _ _ _ c.high_first.result
    c.high_first-in-loop-left.result Greater a.front a.back b.front b.back
    c.loop-left.invariant.1 c.loop-left.invariant.2 (omega arith)
    (omega arith) c.high_first.ensures c.high_first-in-loop-left.ensures
    (sym c.cmp.ensures ∙ c.in-Greater.is) in
    sym e ∙ c.loop-left.invariant.0

pub loop-left-init : goal.loop-left-init
loop-left-init c = (
  refl,
  (λ i. omega (arith, c.type_inv.a i)),
  (λ i. omega (arith, c.type_inv.b i)),
)

pub loop-left-preserved : goal.loop-left-preserved
loop-left-preserved c =
    let a = c.split_at.ensures in
    let b = c.split_at-in-loop-left.ensures in
    let e = by_eight c.loop-left.left.now c.loop-left.right.now _ _ _ _ c.high_first.result
    c.high_first-in-loop-left.result Equal a.front a.back b.front b.back
    c.loop-left.invariant.1 c.loop-left.invariant.2 (omega arith)
    (omega arith) c.high_first.ensures c.high_first-in-loop-left.ensures
    (sym c.cmp.ensures ∙ c.in-Equal.is) in (
      sym e ∙ c.loop-left.invariant.0,
      rw a.back (IsBytes-drop 8 _ c.loop-left.invariant.1),
      rw b.back (IsBytes-drop 8 _ c.loop-left.invariant.2),
    )

pub returns : goal.returns
returns c = rw c.compare_by_first.ensures c.loop-left.invariant.0
