use Rattle.std.proofs.Common.{inr}
use Rattle.std.proofs.lemmas.Result.{IfErr-weaker}
use Rattle.lsm_cmd_write.proofs.cleaning.clear.Goals as goal

pub returns-clause-refused : goal.returns-clause-refused
returns-clause-refused g c =
    IfErr-weaker c.tidy.result _ _ (λ e p. inr (_, rw c.number.ensures at c.in_ok-make_durable.ensures.durable, p)) c.tidy.ensures.refused
