use Rattle.std.proofs.Common.{List, subst, ◌∙◌}
use Rattle.std.specs.Prelude.{IfOk}
use Rattle.std.specs.Option.{option_map}
use Rattle.lsm_codec.specs.Entries.{Entry}
use Rattle.lsm_theorems.specs.Newest.{IsReadOfAll}
use Rattle.lsm_theorems.proofs.made.read_back.Goals as goal

pub returns : goal.returns
returns g c = λ fair. subst (λ (es : List Entry). IfOk c.read_first-value.result.0 (λ v. IsReadOfAll es c.args.user.now (option_map (λ b. b.items) v)))
    (c.read_first-value.ensures.seen ∙ c.in_ok-state.ensures) (c.read_first-value.ensures.read fair)
