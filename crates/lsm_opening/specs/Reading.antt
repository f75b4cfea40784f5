-- The state with which one begins who only reads (this project's rule).
use Rattle.std.specs.Prelude.{◌≡◌, ◌⊎◌, ℕ, List, true}
use Rattle.lsm_pins.specs.Known.{Known}
use Rattle.lsm_shelf.specs.Asked.{Asked}
use Rattle.lsm_shelf.specs.declared.shelf_fault.ShelfFault.{ShelfFault}
use Rattle.lsm_shelf.specs.Told.{Told, Becomes, finding, listing}
use Rattle.lsm_manifest.specs.Shape.{Form}
use Rattle.lsm_journal.specs.HeldManifest.{HeldManifest}
use Rattle.lsm_journal.specs.Recovering.{IsRecovered, IsRecoverRefusal, RecoverCounted}
use Rattle.lsm_journal.specs.declared.open_fault.OpenFault.{OpenFault}
use Rattle.lsm_journal.specs.declared.recover_fault.RecoverFault.{RecoverFault}
use Rattle.lsm_state.specs.Held.{Held}
use Rattle.lsm_state.specs.Opening.{IsFindRefusal, IsFound, IsReadOnce, opened_state}
use Rattle.lsm_state.specs.Options.{limit_of}
use Rattle.lsm_state.specs.declared.options.Options.{Options}
use Rattle.lsm_directory.specs.declared.folder.named_manifest.NamedManifest.{NamedManifest}
use Rattle.lsm_opening.specs.Parts.{usual}
use Rattle.lsm_opening.specs.Starting.{IsOutOfMemory}
use Rattle.lsm_opening.specs.WriterFault.{of_manifest, of_open}
use Rattle.lsm_opening.specs.declared.faults.writer_fault.WriterFault.{WriterFault}

-- Between these moments the shelf gave its manifest at most, then listed its tables at most, and
-- else was asked for nothing but tables: it put no table, was asked to remove none, and began and
-- appended to no manifest.
abbrev pub OnlyReads : Told → Told → Type 0
OnlyReads was is =
    Becomes was is ⊎ ((number : ℕ) × (bytes : List ℕ)
    × (Becomes (finding number bytes was) is
    ⊎ ((listed : List ℕ) × Becomes (listing listed (finding number bytes was)) is)))

-- ---- the manifest

-- It was read, and nothing else was asked for. It has this number and these log numbers, and so
-- many bytes at its end hold no whole record.
pub record FindsManifest (m : NamedManifest) (was is : Told) : Type 0 where
  pub held : HeldManifest
  pub shape : Form
  pub recovered : IsRecovered held shape m.rest
  pub number : m.number ≡ held.number
  pub log : m.log ≡ held.log
  pub previous : m.prev_log ≡ held.prev_log
  pub told : Becomes (finding held.number held.bytes was) is

-- it could not be read
abbrev pub LacksManifest : (Asked → ShelfFault → Type 0) → WriterFault → Told → Told → Type 0
LacksManifest Refused e was is =
    (fault : RecoverFault) × (e ≡ of_manifest fault) × IsRecoverRefusal Refused fault was is
    × RecoverCounted fault was is

-- ---- the state

-- The state of the version that the manifest records, with these options. It is halted: it refuses
-- each write.
pub record IsHaltedWith (Honest : Type 0) (o : Options) (h : Held) (was is : Told) : Type 0 where
  pub publisher : Known
  pub pinners : List Known
  pub state : h ≡ opened_state o publisher pinners h.slots.version h.journal h.next true
  pub rest : ℕ
  pub found : IsFound Honest (limit_of o) h.journal h.slots.version rest h.next was is

-- why there is none
abbrev pub IsNotHalted : (ℕ → List ℕ → Type 0) → (Asked → ShelfFault → Type 0) → Type 0
    → WriterFault → Told → Told → Type 0
IsNotHalted Stored Refused Honest e was is =
    (fault : OpenFault) × (e ≡ of_open fault) × IsFindRefusal Stored Refused Honest fault was is
    × IsReadOnce fault was is

-- The manifest was read, and then the state was opened so, with the usual options.
pub record OpensToRead (Honest : Type 0) (m : NamedManifest) (h : Held) (was is : Told)
    : Type 0 where
  pub mid : Told
  pub manifest : FindsManifest m was mid
  pub opened : IsHaltedWith Honest usual h mid is

-- Memory ran out before the shelf was asked for anything; or the manifest could not be read; or it
-- was, and there is no such state.
abbrev pub IsReadingRefusal : (ℕ → List ℕ → Type 0) → (Asked → ShelfFault → Type 0) → Type 0
    → WriterFault → Told → Told → Type 0
IsReadingRefusal Stored Refused Honest e was is =
    IsOutOfMemory e was is
    ⊎ (LacksManifest Refused e was is
    ⊎ ((m : NamedManifest) × (mid : Told) × FindsManifest m was mid
    × IsNotHalted Stored Refused Honest e mid is))
