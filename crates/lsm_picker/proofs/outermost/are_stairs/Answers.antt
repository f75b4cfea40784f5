use Rattle.std.proofs.Common.{ℕ, ◌≤◌, arith, inl, inr, subst, sym}
use Rattle.std.proofs.Math.Nat.{eq-or-lt_of_le}
use Rattle.lsm_picker.specs.Stairs.{IsStair}
use Rattle.lsm_picker.proofs.outermost.are_stairs.Goals as goal

pub returns-then-not-is_stair : goal.returns-then-not-is_stair
returns-then-not-is_stair g c = (
  λ yes. absurd (cc yes),
  λ all.
      let stair = all c.loop-level.level c.loop-level.auto.level
      (omega (arith, c.loop-level-test.true)) in
      let is = c.is_stair.ensures.1 stair in
      absurd (cc (is, c.if-not-is_stair.true)),
)

pub loop-level-preserved : goal.loop-level-preserved
loop-level-preserved g c = λ n low up.
    let below : n ≤ c.loop-level.level = omega (arith, up) in elim (eq-or-lt_of_le below) [
      | inl same ↦
          subst (λ (m : ℕ). IsStair c.args.version.now c.args.rising m) (sym same)
          (c.is_stair.ensures.0 (cc c.if-not-is_stair.false))
      | inr less ↦ c.loop-level.invariant n low less
    ]

pub returns : goal.returns
returns g c = (
  λ yes level low up.
      c.loop-level.invariant level low (omega (arith, up, c.loop-level-test.false)),
  λ all. cc,
)
