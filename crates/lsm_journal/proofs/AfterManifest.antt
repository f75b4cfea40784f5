-- A refusal after the manifest was read says nothing of how often it was asked for.
use Rattle.std.specs.Prelude.{IfErr, Result, Ok, Err}
use Rattle.lsm_shelf.specs.Told.{Told}
use Rattle.lsm_journal.specs.Finding.{IsAfterManifest, IsReadOnce}
use Rattle.lsm_journal.specs.declared.open_fault.OpenFault.{OpenFault}
use Rattle.lsm_journal.specs.declared.open_fault.OpenFault.TheVariants.{OutOfMemory, Shelf, Recover, Check, NumbersSpent}

pub after_once : {T : Type 0} (r : Result T OpenFault) (was is : Told) → IfErr r IsAfterManifest → IfErr r (λ e. IsReadOnce e was is)
after_once (Ok x) was is a = a
after_once (Err (Recover e)) was is a = absurd a
after_once (Err (Check e)) was is a = tt
after_once (Err (Shelf e)) was is a = tt
after_once (Err NumbersSpent) was is a = tt
after_once (Err OutOfMemory) was is a = tt
