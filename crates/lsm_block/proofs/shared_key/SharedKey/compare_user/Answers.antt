use Rattle.std.proofs.Common.{length, arith, ap}
use Rattle.lsm_block.specs.KeyParts.{KeyParts, joined}
use Rattle.lsm_block.proofs.JoinLaws.{joined-length, joined-fits, user_by_front, user_by_short, user_by_parts}
use Rattle.lsm_block.proofs.shared_key.SharedKey.compare_user.Goals as goal

pub returns-then-len-self : goal.returns-then-len-self
returns-then-len-self c =
    let len = ap (λ (k : KeyParts). length (joined k)) c.self.view_is in
    rw (c.cmp.ensures, c.split_at.ensures.front, c.len-len.ensures, ← c.self.view_is) record {
      compares = user_by_front _ c.args.other.now c.self.invariant (omega (arith, len, c.requires)) (omega (arith, len, c.len-len.ensures, c.if-len-self.true));
      bytes = joined-fits _ c.self.invariant;
    }

pub returns-then-other-self : goal.returns-then-other-self
returns-then-other-self c =
    let len = ap (λ (k : KeyParts). length (joined k)) c.self.view_is in
    rw (c.cmp-then-other-self.ensures, c.split_at-2.ensures.front, ← c.self.view_is) record {
      compares = user_by_short _ c.args.other.now c.self.invariant (omega (arith, joined-length _ c.self.invariant, len, c.len-len.ensures, c.if-len-self.false)) (omega (arith, c.if-other-self.true));
      bytes = joined-fits _ c.self.invariant;
    }

pub returns : goal.returns
returns c =
    let len = ap (λ (k : KeyParts). length (joined k)) c.self.view_is in
    rw (
      c.then.ensures,
      c.compare.ensures,
      c.compare_by_first.ensures,
      c.split_at-2.ensures.front,
      c.split_at-3.ensures.front,
      c.split_at-3.ensures.back,
      c.split_at-4.ensures.front,
      ← c.self.view_is,
    ) record {
      compares = user_by_parts _ c.args.other.now c.self.invariant (omega (arith, joined-length _ c.self.invariant, len, c.len-len.ensures, c.if-len-self.false)) (omega (arith, c.if-other-self.false));
      bytes = joined-fits _ c.self.invariant;
    }
