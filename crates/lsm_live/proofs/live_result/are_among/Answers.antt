use Rattle.std.proofs.Common.{ℕ, ◌==◌, get_or, refl, sym, ◌∙◌, subst}
use Rattle.std.proofs.lemmas.Bool.{eqb-true, eq-eqb}
use Rattle.std.proofs.lemmas.List.{get_or_default}
use Rattle.lsm_codec.specs.Lists.{Has}
use Rattle.lsm_codec.proofs.CallerLemmas.{any_at, any_says}
use Rattle.lsm_live.proofs.Elements.{each_more, has_at}
use Rattle.lsm_live.proofs.live_result.are_among.Goals as goal

pub returns-then-not-contains : goal.returns-then-not-contains
returns-then-not-contains c =
    let i : ℕ = c.loop-number.number-index in
    let n : ℕ = get_or c.args.numbers.now i 0 in (
      λ e. absurd (cc e),
      λ all. sym c.if-not-contains.true ∙ (c.contains.ensures.value ∙ any_at (λ (m : ℕ). m == n) c.args.others.now n
          (all n (has_at c.args.numbers.now i n c.loop-number-test.true (get_or_default c.args.numbers.now i 0 n c.loop-number-test.true))) (eq-eqb n n refl)),
    )

pub loop-number-preserved : goal.loop-number-preserved
loop-number-preserved c =
    let i : ℕ = c.loop-number.number-index in
    let n : ℕ = get_or c.args.numbers.now i 0 in
    let r = any_says (λ (m : ℕ). m == n) c.args.others.now (sym c.contains.ensures.value ∙ c.if-not-contains.false) in
    each_more (Has c.args.others.now) c.args.numbers.now i n c.loop-number-test.true (get_or_default c.args.numbers.now i 0 n c.loop-number-test.true) c.loop-number.invariant
    (subst (Has c.args.others.now) (eqb-true r.0 n r.2) r.1)
