-- What is read of a manifest, and why it is refused (LevelDB's `VersionSet::Recover`).
use Rattle.std.specs.Prelude.{◌≡◌, ℕ, List, ◌∷◌, ◌++◌, Err}
use Rattle.lsm_shelf.specs.Asked.{Asked, ReadManifest}
use Rattle.lsm_shelf.specs.declared.shelf_fault.ShelfFault.{ShelfFault}
use Rattle.lsm_shelf.specs.Told.{Told, Becomes, Counted, CountedBy, NotTaken, finding}
use Rattle.lsm_manifest.specs.declared.edit_fault.EditFault.{EditFault}
use Rattle.lsm_manifest.specs.declared.replay_fault.ReplayFault.{ReplayFault}
use Rattle.lsm_manifest.specs.EditFit.{Change}
use Rattle.lsm_manifest.specs.EditReading.{edit_at}
use Rattle.lsm_manifest.specs.EditView as edit_view
use Rattle.lsm_manifest.specs.Log.{IsLog}
use Rattle.lsm_manifest.specs.LogReading.{log_at}
use Rattle.lsm_manifest.specs.LogView as log_view
use Rattle.lsm_manifest.specs.Manifest.{AreEdits, IsManifest}
use Rattle.lsm_manifest.specs.Shape.{Form, IsRefused, IsReplayed}
use Rattle.lsm_journal.specs.HeldManifest.{HeldManifest}
use Rattle.lsm_journal.specs.declared.recover_fault.RecoverFault.{RecoverFault}
use Rattle.lsm_journal.specs.declared.recover_fault.RecoverFault.TheVariants.{Shelf, Log, Edit}
use Rattle.lsm_journal.specs.declared.recover_fault.RecoverFault.TheVariants.{Replay}

-- The manifest held is edits that come to the shape, whose log numbers the journal keeps; so many
-- bytes at its end hold no whole record.
pub record IsRecovered (h : HeldManifest) (shape : Form) (rest : ℕ) : Type 0 where
  pub edits : List Change
  pub manifest : IsManifest h.bytes edits rest
  pub replayed : IsReplayed edits shape
  pub log : h.log ≡ shape.log
  pub prev_log : h.prev_log ≡ shape.prev_log

-- the shelf gave a manifest of these bytes
abbrev pub Gave : List ℕ → Told → Told → Type 0
Gave bytes was is = (number : ℕ) × Becomes (finding number bytes was) is

-- the first record that is no edit has this fault, unless memory ran out
pub record IsRecordRefusal (records : List (List ℕ)) (e : EditFault) : Type 0 where
  pub front : List (List ℕ)
  pub one : List ℕ
  pub back : List (List ℕ)
  pub parts : records ≡ front ++ one ∷ back
  pub edits : List Change
  pub before : AreEdits front edits
  pub fault : edit_view.Fails e (edit_at one)

-- the bytes are a log, and so it is with its records
abbrev pub IsEditRefusal : List ℕ → EditFault → Type 0
IsEditRefusal bytes e = (records : List (List ℕ)) × (rest : ℕ) × IsLog bytes records rest
    × IsRecordRefusal records e

-- the bytes are no log, or the log has a record that is no edit
abbrev pub IsNoManifest : List ℕ → RecoverFault → Type 0
IsNoManifest bytes (Shelf e) = ⊥
IsNoManifest bytes (Log e) = log_view.Fails e (log_at bytes)
IsNoManifest bytes (Edit e) = IsEditRefusal bytes e
IsNoManifest bytes (Replay e) = ⊥

-- the edits have this fault
abbrev pub IsReplayRefusal : List ℕ → ReplayFault → Type 0
IsReplayRefusal bytes e = (edits : List Change) × (rest : ℕ) × IsManifest bytes edits rest
    × IsRefused edits e

-- The shelf refused to give the manifest, with a count that rose; or what it gave is no log; or the
-- log has a record that is no edit; or the edits come to no shape.
abbrev pub IsRecoverRefusal : (Asked → ShelfFault → Type 0) → RecoverFault → Told → Told → Type 0
IsRecoverRefusal Refused (Shelf e) was is =
    Becomes was is × NotTaken e × Counted e was is × Refused ReadManifest e
IsRecoverRefusal Refused (Log e) was is =
    (bytes : List ℕ) × Gave bytes was is × log_view.Fails e (log_at bytes)
IsRecoverRefusal Refused (Edit e) was is =
    (bytes : List ℕ) × Gave bytes was is × IsEditRefusal bytes e
IsRecoverRefusal Refused (Replay e) was is =
    (bytes : List ℕ) × Gave bytes was is × IsReplayRefusal bytes e

-- no count rose
abbrev pub SameCounts : Told → Told → Type 0
SameCounts was is = (is.faults ≡ was.faults) × (is.misses ≡ was.misses)

-- what a refused reading counted: a refusal of the shelf just once, and else nothing
abbrev pub RecoverCounted : RecoverFault → Told → Told → Type 0
RecoverCounted (Shelf e) was is = CountedBy {T = Unit {0}} (Err e) was is
RecoverCounted (Log e) was is = SameCounts was is
RecoverCounted (Edit e) was is = SameCounts was is
RecoverCounted (Replay e) was is = SameCounts was is
