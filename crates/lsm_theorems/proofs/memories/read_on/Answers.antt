use Rattle.std.proofs.Common.{List, ap, sym, subst, ◌∙◌}
use Rattle.lsm_codec.specs.Entries.{Entry}
use Rattle.lsm_history.specs.History.{IsLater}
use Rattle.lsm_state.specs.Held.{Held}
use Rattle.lsm_theorems.proofs.memories.read_on.Goals as goal

pub returns-clause-later : goal.returns-clause-later
returns-clause-later g c =
    subst (λ (es : List Entry). IsLater es c.args.memory) (sym (c.read_first.ensures.seen ∙ ap (λ (h : Held). h.history) c.recall.ensures.same)) c.recall.ensures.later
