use Rattle.std.proofs.Common.{◌≡◌, true, false, sym, ◌∙◌}
use Rattle.std.specs.List.{list_any}
use Rattle.std.specs.Prelude.{◌==◌}
use Rattle.std.proofs.lemmas.Bool.{eq-eqb}
use Rattle.lsm_codec.proofs.CallerLemmas.{any_at}
use Rattle.lsm_verify.proofs.unsettled.first_level.Goals as goal

pub returns-else-is_among-clause-own : goal.returns-else-is_among-clause-own
returns-else-is_among-clause-own g c = λ h.
    let number : c.args.table.now.number ≡ c.number.result = sym (c.number.ensures ∙ c.record.ensures.number) in
    let among : list_any (λ n. n == c.number.result) c.args.reaching.now ≡ true = any_at (λ n. n == c.number.result) c.args.reaching.now c.args.table.now.number h (eq-eqb c.args.table.now.number c.number.result number) in
    let not : list_any (λ n. n == c.number.result) c.args.reaching.now ≡ false = sym c.is_among.ensures ∙ c.if-is_among.false in
    absurd (cc (among, not))
