-- What a replay gives (LevelDB's `VersionSet::Recover`), and what it refuses (this project's rule).
use Rattle.std.specs.Prelude.{◌≡◌, ℕ, ◌≤◌, List, [], length, Some, None, IsSome, get_or, unwrap_or}
use Rattle.std.specs.List.Sorted.{IsStrictlySortedBy}
use Rattle.lsm_codec.specs.Lists.{Has}
use Rattle.lsm_manifest.specs.declared.file_meta.FileMeta.{FileMeta}
use Rattle.lsm_manifest.specs.declared.parts.AddedFile.{AddedFile}
use Rattle.lsm_manifest.specs.declared.edit.Edit.{Edit}
use Rattle.lsm_manifest.specs.declared.shape.Shape.{Shape}
use Rattle.lsm_manifest.specs.declared.replay_fault.ReplayFault.{ReplayFault}
use Rattle.lsm_manifest.specs.declared.replay_fault.ReplayFault.TheVariants.{OutOfMemory}
use Rattle.lsm_manifest.specs.declared.replay_fault.ReplayFault.TheVariants.{NoNextFile}
use Rattle.lsm_manifest.specs.declared.replay_fault.ReplayFault.TheVariants.{NoLogNumber}
use Rattle.lsm_manifest.specs.declared.replay_fault.ReplayFault.TheVariants.{NoLastSequence}
use Rattle.lsm_manifest.specs.declared.replay_fault.ReplayFault.TheVariants.{OtherComparator}
use Rattle.lsm_manifest.specs.declared.replay_fault.ReplayFault.TheVariants.{DoubleFile}
use Rattle.lsm_manifest.specs.FileOrder.{file_cmp}
use Rattle.lsm_manifest.specs.HeldLevel.{HoldsLevel}
use Rattle.lsm_manifest.specs.Replay.{Stands, AreInnocent, IsFirstFault, last_log, last_prev_log}
use Rattle.lsm_manifest.specs.Replay.{last_next, last_sequence, last_pointer}

-- a shape, under a name that no type of src/ has
abbrev pub Form : Type 0
Form = Shape

-- Seven levels and as many pointers, each level in its order, and no two files with one number:
-- what holds of every shape that edits come to, whatever the edits.
pub record IsShape (shape : Shape) : Type 0 where
  pub seven : length shape.levels ≡ 7
  pub seven_pointers : length shape.pointers ≡ 7
  pub ordered : (level : ℕ) → level ≤ 6 → IsStrictlySortedBy file_cmp (get_or shape.levels level [])
  pub numbers : (level other : ℕ) (f g : FileMeta) → level ≤ 6 → other ≤ 6
      → Has (get_or shape.levels level []) f → Has (get_or shape.levels other []) g
      → f.number ≡ g.number → (level ≡ other) × (f ≡ g)

-- The shape is what the edits come to, and none of them has a fault; no two files that stand have
-- one number.
pub record IsReplayed (edits : List Edit) (shape : Shape) : Type 0 where
  pub innocent : AreInnocent edits
  pub seven : length shape.levels ≡ 7
  pub seven_pointers : length shape.pointers ≡ 7
  pub numbers : (a b : AddedFile) → Stands edits a → Stands edits b → a.file.number ≡ b.file.number
      → a ≡ b
  pub levels : (level : ℕ) → level ≤ 6 → HoldsLevel edits level (get_or shape.levels level [])
  pub pointers : (level : ℕ) → level ≤ 6
      → get_or shape.pointers level None ≡ last_pointer level edits
  pub log : last_log edits ≡ Some shape.log
  pub prev_log : unwrap_or (last_prev_log edits) 0 ≡ shape.prev_log
  pub next : last_next edits ≡ Some shape.next
  pub last : last_sequence edits ≡ Some shape.last

-- Why a replay refuses the edits: the first fault of an edit; where there is none, a number field
-- that no edit has, the next file number before the log number before the last sequence.
abbrev pub IsRefused : List Edit → ReplayFault → Type 0
IsRefused edits OutOfMemory = Unit {0}
IsRefused edits OtherComparator = IsFirstFault edits OtherComparator
IsRefused edits (DoubleFile number) = IsFirstFault edits (DoubleFile number)
IsRefused edits NoNextFile = AreInnocent edits × (last_next edits ≡ None)
IsRefused edits NoLogNumber = AreInnocent edits × IsSome (last_next edits) × (last_log edits ≡ None)
IsRefused edits NoLastSequence =
    AreInnocent edits × IsSome (last_next edits) × IsSome (last_log edits)
    × (last_sequence edits ≡ None)
