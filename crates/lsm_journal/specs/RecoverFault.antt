-- The refusals of reading a manifest: their numbers and names (this project's rule).
use Rattle.std.specs.Prelude.{ℕ, List}
use Rattle.lsm_shelf.specs.ShelfFault as shelf
use Rattle.lsm_manifest.specs.LogFault as log
use Rattle.lsm_manifest.specs.EditFault as edit
use Rattle.lsm_manifest.specs.ReplayFault as replay
use Rattle.lsm_journal.specs.declared.recover_fault.RecoverFault.{RecoverFault}
use Rattle.lsm_journal.specs.declared.recover_fault.RecoverFault.TheVariants.{Shelf, Log, Edit}
use Rattle.lsm_journal.specs.declared.recover_fault.RecoverFault.TheVariants.{Replay}

abbrev pub number_of : RecoverFault → ℕ
number_of (Shelf e) = shelf.number_of e
number_of (Log e) = log.number_of e
number_of (Edit e) = edit.number_of e
number_of (Replay e) = replay.number_of e

abbrev pub name_of : RecoverFault → List ℕ
name_of (Shelf e) = shelf.name_of e
name_of (Log e) = log.name_of e
name_of (Edit e) = edit.name_of e
name_of (Replay e) = replay.name_of e
