use Rattle.std.proofs.Common.{length, ap, subst, arith}
use Rattle.lsm_block.specs.KeyParts.{KeyParts, AreParts}
use Rattle.lsm_block.proofs.JoinLaws.{joined-length, before_by_length, before_in_front, before_by_rest}
use Rattle.lsm_block.proofs.shared_key.SharedKey.compare_before.Goals.{then-self-lt8-via-then-self-lt8, then-self-lt8-via-else-self-lt8+then-self}
use Rattle.lsm_block.proofs.shared_key.SharedKey.compare_before.Goals as goal

pub returns-then-self-lt8 : goal.returns-then-self-lt8
returns-then-self-lt8 c =
    let key = c.args.self.now in
    let parts = subst AreParts c.self.view_is c.self.invariant in
    let before = ap (λ (k : KeyParts). length k.before) c.self.view_is in
    let shared = ap (λ (k : KeyParts). k.shared) c.self.view_is in
    let own = ap (λ (k : KeyParts). length k.own) c.self.view_is in
    rw (c.cmp.ensures, c.len.ensures, before) (elim c.then-self-lt8.branch [
      | then-self-lt8-via-then-self-lt8 w ↦ before_by_length key parts c.requires.before c.requires.key (omega (arith, joined-length key parts, own, w.if-self-lt8.true))
      | then-self-lt8-via-else-self-lt8+then-self w ↦ before_in_front key parts c.requires.before c.requires.key (omega (arith, before, shared, w.if-self.true))
    ])

pub returns : goal.returns
returns c =
    rw (
      c.compare_by_first.ensures,
      c.split_at-3.ensures.front,
      c.split_at-2.ensures.back,
      c.split_at.ensures.front,
      ← c.self.view_is,
    )
    (before_by_rest _ c.self.invariant (omega (arith, c.if-self-lt8.false)) (omega (arith, c.if-self.false)))
