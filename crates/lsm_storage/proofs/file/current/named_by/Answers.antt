use Rattle.std.proofs.Common.{sym, ◌∙◌, inr, refl}
use Rattle.lsm_storage.proofs.Tables.{some_is, none_is}
use Rattle.lsm_storage.proofs.file.current.named_by.Goals as goal

pub returns-in-Ok-Some-clause-named : goal.returns-in-Ok-Some-clause-named
returns-in-Ok-Some-clause-named c = rw c.as_slice.ensures.value at (c.in-Ok-Some.ensures c.in-Ok-Some.number).0 c.in-Ok-Some.field-0-is

pub returns-in-Ok-Some-clause-only : goal.returns-in-Ok-Some-clause-only
returns-in-Ok-Some-clause-only c = λ m small is. some_is c.in-Ok-Some.number m (sym c.in-Ok-Some.field-0-is ∙ (c.in-Ok-Some.ensures m).1 small (rw c.as_slice.ensures.value is))

pub returns-in-Ok-None-clause-none : goal.returns-in-Ok-None-clause-none
returns-in-Ok-None-clause-none c = inr (refl, λ n small is. none_is n (sym c.in-Ok-None.field-0-is ∙ (c.in-Ok-None.ensures n).1 small (rw c.as_slice.ensures.value is)))
