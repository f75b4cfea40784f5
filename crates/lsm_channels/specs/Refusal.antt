-- What private functions say of an opening that is refused (this project's rule).
use Rattle.std.specs.Prelude.{◌≡◌, ◌⊎◌, ℕ, ℤ, pos, Bool, List, [], ◌∷◌, ◌++◌}
use Rattle.lsm_folder.specs.declared.folder_calls.FolderCalls.{Ghosts}
use Rattle.lsm_folder.specs.declared.mark.Mark as mark
use Rattle.lsm_directory.specs.declared.folder.folder_file.FolderFile.{FolderFile}
use Rattle.lsm_opening.specs.declared.faults.writer_fault.WriterFault.TheVariants.{OutOfMemory}
use Rattle.lsm_opening.specs.declared.prepared.Start.{Start}
use Rattle.lsm_opening.specs.declared.prepared.Start.TheVariants.{Open}
use Rattle.lsm_recovery.specs.Recovered.{FailsOn}
use Rattle.lsm_recovery.specs.declared.bring_fault.BringFault.{BringFault}
use Rattle.lsm_channels.specs.Opening.{SaysRefusal}
use Rattle.lsm_channels.specs.Serving.{End, end, ends_from, opened_from}
use Rattle.lsm_channels.specs.declared.opening_fault.OpeningFault.{OpeningFault}
use Rattle.lsm_channels.specs.declared.opening_fault.OpeningFault.TheVariants.{Folder, Logs}

-- of no descriptor anything was said
abbrev pub none_said : ℤ → Bool → Type 0
none_said fd is_open = ⊥

-- The database that is there was to be opened, and the logs among these files did not come in.
abbrev pub KeepsLogsOut : {C M : Type 0} → Ghosts C M → mark.Ghosts M → Start → List FolderFile
    → (old new : C) → OpeningFault → Type 0
KeepsLogsOut folders marks start files old new e =
    (fault : BringFault) × (e ≡ Logs fault) × (start ≡ Open)
    × FailsOn folders marks files old new fault

-- Which wires are left of an opening: none was made; those of its channels; or, where workers could
-- not be had, none of them.
abbrev pub AreOpened : OpeningFault → (first channels : ℕ) → List End → (was is : List ℤ) → Type 0
AreOpened e first channels ws was is = ((ws ≡ []) × (is ≡ was))
    ⊎ (((ws ≡ ends_from first channels) × (is ≡ opened_from first channels ++ was))
    ⊎ ((e ≡ Folder OutOfMemory) × (ws ≡ []) × (is ≡ opened_from first channels ++ was)))

-- The first of these wires, and the others; or a new one of this number where there are none.
abbrev pub IsFirst : (first : ℕ) → List End → (w : End) → (others : List End) → (was is : List ℤ)
    → Type 0
IsFirst first ws w others was is =
    ((ws ≡ []) × (w ≡ end (pos first) []) × (others ≡ []) × (is ≡ pos first ∷ was))
    ⊎ ((ws ≡ w ∷ others) × (is ≡ was))

-- A refusal was said over the first of these wires, as it was till then.
abbrev pub IsSaidOn : OpeningFault → (first : ℕ) → List End → (was is : List ℤ) → (w : End)
    → (others : List End) → Type 0
IsSaidOn e first ws was is w others =
    (old : End) × IsFirst first ws old others was is
    × (old ≡ end (pos first) [] → SaysRefusal e first w)
