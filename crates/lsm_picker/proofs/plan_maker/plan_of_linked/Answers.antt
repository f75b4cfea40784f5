-- Both levels are linked, and the hull is that of both.
use Rattle.std.proofs.Common.{◌≡◌, ℕ, ◌+◌, suc, List, sym, subst, arith}
use Rattle.lsm_codec.specs.Keys.{UserKey, UserLe}
use Rattle.lsm_codec.specs.Lists.{Has}
use Rattle.lsm_table.specs.Registry.{Table}
use Rattle.lsm_model.specs.Files.{Meets}
use Rattle.lsm_version.specs.Versions.{user_of}
use Rattle.lsm_picker.specs.TablePlans.{AreLinked}
use Rattle.lsm_picker.specs.TableRanges.{IsHighest, IsLowest}
use Rattle.lsm_picker.proofs.Planning.{has_item, plan_closed, range_order}
use Rattle.lsm_picker.proofs.plan_maker.plan_of_linked.Goals as goal

pub returns-clause-planned : goal.returns-clause-planned
returns-clause-planned g c = λ from to h s up.
    let v = c.args.version.now in
    let us = c.args.upper.items in
    let ls = c.in_ok-lower.lower.items in
    let x = c.index-first.result.now in
    let f = c.lowest-from.result.now in
    let t = c.highest-to.result.now in
    let there : Has us x = has_item us 0 x c.requires.filled c.index-first.ensures in
    let lu : IsLowest us (user_of x.smallest) f
    = subst (λ (k : UserKey). IsLowest us k f) c.low_of.ensures (subst (λ (ts : List Table). IsLowest ts c.low_of.result.now f) c.as_slice.ensures.value c.lowest-from.ensures) in
    let hu : IsHighest us (user_of x.largest) t
    = subst (λ (k : UserKey). IsHighest us k t) c.high_of.ensures (subst (λ (ts : List Table). IsHighest ts c.high_of.result.now t) c.as_slice-2.ensures.value c.highest-to.ensures) in
    let order : UserLe f t = range_order v c.args.level us x f t s c.requires.of_level there lu hu in
    let next : c.from.result + 1 ≡ suc c.args.level = omega (arith, c.from.ensures) in
    let down : AreLinked v (suc c.args.level) (λ F. Meets F f t) ls = subst (λ (n : ℕ). AreLinked v n (λ F. Meets F f t) ls) next (c.in_ok-lower.ensures.linked h s order) in
    let ll : IsLowest ls f c.in_ok-low.low
    = subst (IsLowest ls f) (sym c.in_ok-low.ensures) (subst (λ (ts : List Table). IsLowest ts f c.lowest.result.now) c.as_slice-3.ensures.value c.lowest.ensures) in
    let hl : IsHighest ls t c.in_ok-high.high
    = subst (IsHighest ls t) (sym c.in_ok-high.ensures) (subst (λ (ts : List Table). IsHighest ts t c.highest.result.now) c.as_slice-4.ensures.value c.highest.ensures) in
    plan_closed v c.args.level (λ F. Meets F from to) us ls x f t c.in_ok-low.low c.in_ok-high.high up there lu hu down ll hl
