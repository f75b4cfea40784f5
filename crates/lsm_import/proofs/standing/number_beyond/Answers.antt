use Rattle.std.proofs.Common.{◌≡◌, ℕ, get_or, refl, subst, arith}
use Rattle.lsm_codec.specs.Lists.{Has}
use Rattle.lsm_import.proofs.StandingLaws.{below_more, has_got}
use Rattle.lsm_import.proofs.standing.number_beyond.Goals as goal

pub returns-then-number-clause-spent : goal.returns-then-number-clause-spent
returns-then-number-clause-spent c =
    let e : get_or c.args.numbers.now c.loop-number.number-index 0 ≡ 18446744073709551615 =
    omega arith in (
      refl,
      subst (λ (n : ℕ). Has c.args.numbers.now n) e
          (has_got c.args.numbers.now c.loop-number.number-index c.loop-number-test.true),
    )

pub loop-number-preserved : goal.loop-number-preserved
loop-number-preserved c = record {
  from = (let a = c.loop-number.invariant.from in let m = c.max-next.ensures in omega arith);
  below = below_more c.args.numbers.now c.loop-number.number-index c.loop-number.next
      c.max-next.result c.loop-number-test.true c.loop-number.invariant.below c.max-next.ensures;
}
