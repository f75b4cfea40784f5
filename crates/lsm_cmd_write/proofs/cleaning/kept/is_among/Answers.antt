use Rattle.std.proofs.Common.{sym, subst}
use Rattle.std.specs.Prelude.{MatchBool}
use Rattle.lsm_codec.specs.Lists.{Has}
use Rattle.lsm_cmd_write.proofs.Numbers.{among_found}
use Rattle.lsm_cmd_write.proofs.cleaning.kept.is_among.Goals as goal

pub returns : goal.returns
returns c =
    subst (λ b. MatchBool b (Has c.args.numbers.now c.args.number) (Has c.args.numbers.now c.args.number → ⊥)) (sym c.is_ok.ensures.value)
    (among_found c.args.numbers.now c.args.number c.binary_search.result c.binary_search.ensures.position c.requires)
