-- What is said of a value that a closure took with it, where nothing of it is seen.
use Rattle.std.proofs.Common.{Bool, true, false}
use base.Shift.{Keyless}
use denote.Exit.{Last, if_kept, left, unseen}

pub quiet_unseen : {D : Type 0} (kept : Bool) (x : D) (w : Last (if_kept kept unseen unseen) x)
    → Keyless (left (if_kept kept unseen unseen) x w)
quiet_unseen true x w = tt
quiet_unseen false x w = tt
