use Rattle.std.proofs.Common.{sym}
use Rattle.lsm_storage.proofs.file.current.current.Goals as goal

pub returns-in-Ok-clause-ok : goal.returns-in-Ok-clause-ok
returns-in-Ok-clause-ok g c = rw (sym c.in-Ok.ensures.named) c.in_ok-text.ensures.ok

pub returns-in-Ok-clause-only : goal.returns-in-Ok-clause-only
returns-in-Ok-clause-only g c = λ m small is. c.in-Ok.ensures.only m small (rw c.in-Ok.ensures.named is)
