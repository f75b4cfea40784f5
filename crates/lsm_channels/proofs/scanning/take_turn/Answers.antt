use Rattle.std.proofs.Common.{◌≡◌, [], true, false, refl, sym, ap, ◌∙◌, subst, rules, arith}
use Rattle.std.specs.Prelude.{Option}
use Rattle.std.specs.Option.{option_map}
use Rattle.lsm_model.specs.Scanning.{Pair, UsersAscend}
use Rattle.lsm_channels.specs.Scanning.{IsFull, below, is_below}
use Rattle.lsm_channels.specs.Stepping.{ahead}
use Rattle.lsm_channels.proofs.PairLaws.{ends_at}
use Rattle.lsm_channels.proofs.scanning.take_turn.Goals as goal

pub returns-then-not-is_below-clause-turn : goal.returns-then-not-is_below-clause-turn
returns-then-not-is_below-clause-turn g c = λ h.
    let to = option_map (λ k. k.now) c.args.range.to in
    let up = subst (λ o. UsersAscend (ahead o c.args.scan.now.left)) c.in-Some.is (c.requires.ascending h) in
    let no : c.is_below.result ≡ false = search rules in
    let past = subst (λ k. is_below to k ≡ false) c.user.ensures (sym c.is_below.ensures ∙ no) in
    (subst (λ o. below to (ahead o c.args.scan.now.left) ≡ []) (sym c.in-Some.is) (ends_at to c.in-Some.pair c.args.scan.now.left up past), refl)

pub returns-in_err-add-clause-long : goal.returns-in_err-add-clause-long
returns-in_err-add-clause-long g c = λ large.
    let to = option_map (λ k. k.now) c.args.range.to in
    let yes : c.is_below.result ≡ true = search rules in
    let here = subst (λ k. is_below to k ≡ true) c.user.ensures (sym c.is_below.ensures ∙ yes) in
    let room : IsFull c.args.range.limit c.args.pairs.now → ⊥ = search rules in
    (c.in-Some.pair, c.args.scan.now.left, ap (λ (o : Option Pair). ahead o c.args.scan.now.left) c.in-Some.is, here, room, c.in_err-add.ensures.long (first_of (search rules, grind arith)))
