-- What a row of edits comes to (LevelDB's `doc/impl.md`, `db/version_set.cc`): the files that some
-- edit adds and no later edit deletes, with the last value of each number field and pointer.
use Rattle.std.specs.Prelude.{◌≡◌, ℕ, ◌⊎◌, List, [], ◌∷◌, ◌++◌, Option, Some, None, IsSomeAnd}
use Rattle.std.specs.Prelude.{codes, ◌==◌, if◌then◌else◌}
use Rattle.lsm_codec.specs.Lists.{Has}
use Rattle.lsm_manifest.specs.Last.{last_by}
use Rattle.lsm_manifest.specs.declared.parts.CompactPointer.{CompactPointer}
use Rattle.lsm_manifest.specs.declared.parts.DeletedFile.{DeletedFile}
use Rattle.lsm_manifest.specs.declared.parts.AddedFile.{AddedFile}
use Rattle.lsm_manifest.specs.declared.edit.Edit.{Edit}
use Rattle.lsm_manifest.specs.declared.replay_fault.ReplayFault.{ReplayFault}
use Rattle.lsm_manifest.specs.declared.replay_fault.ReplayFault.TheVariants.{OutOfMemory}
use Rattle.lsm_manifest.specs.declared.replay_fault.ReplayFault.TheVariants.{NoNextFile}
use Rattle.lsm_manifest.specs.declared.replay_fault.ReplayFault.TheVariants.{NoLogNumber}
use Rattle.lsm_manifest.specs.declared.replay_fault.ReplayFault.TheVariants.{NoLastSequence}
use Rattle.lsm_manifest.specs.declared.replay_fault.ReplayFault.TheVariants.{OtherComparator}
use Rattle.lsm_manifest.specs.declared.replay_fault.ReplayFault.TheVariants.{DoubleFile}

-- a deletion, under a name that no type of src/ has
abbrev pub Deletion : Type 0
Deletion = DeletedFile

-- a file at a level, under a name that no type of src/ has
abbrev pub FileAt : Type 0
FileAt = AddedFile

-- what deletes a file
abbrev pub deletion_of : AddedFile → DeletedFile
deletion_of a = record { level = a.level; number = a.file.number }

-- No edit of these deletes the file.
abbrev pub Spare : List Edit → AddedFile → Type 0
Spare [] a = Unit {0}
Spare (e ∷ es) a = (Has e.deleted (deletion_of a) → ⊥) × Spare es a

-- Some edit adds the file at its level, and no later edit deletes it.
abbrev pub Stands : List Edit → AddedFile → Type 0
Stands [] a = ⊥
Stands (e ∷ es) a = (Has e.added a × Spare es a) ⊎ Stands es a

-- ---- edits at fault

-- Within one edit deletions come before additions: what stands after the edits, these deletions and
-- these additions.
abbrev pub StandsIn : List Edit → List DeletedFile → List AddedFile → AddedFile → Type 0
StandsIn es ds xs a = (Stands es a × (Has ds (deletion_of a) → ⊥)) ⊎ Has xs a

-- A file of this number stands there, at any level.
abbrev pub IsTaken : List Edit → List DeletedFile → List AddedFile → ℕ → Type 0
IsTaken es ds xs number = (b : AddedFile) × (b.file.number ≡ number) × StandsIn es ds xs b

-- Each addition has a number that is not taken when it comes.
abbrev pub AreNew : List Edit → List DeletedFile → List AddedFile → Type 0
AreNew es ds xs = (front : List AddedFile) (one : AddedFile) (back : List AddedFile)
    → xs ≡ front ++ one ∷ back → IsTaken es ds front one.file.number → ⊥

-- Each of these files has a number that no later one has.
abbrev pub AreApart : List AddedFile → Type 0
AreApart [] = Unit {0}
AreApart (a ∷ later) = ((b : AddedFile) → Has later b → a.file.number ≡ b.file.number → ⊥)
    × AreApart later

-- No file that stands after the edits and these deletions has the number of one of these files.
abbrev pub AreFresh : List Edit → List DeletedFile → List AddedFile → Type 0
AreFresh es ds xs = (a b : AddedFile) → Stands es a → (Has ds (deletion_of a) → ⊥) → Has xs b
    → a.file.number ≡ b.file.number → ⊥

-- The first addition whose number is taken when it comes has this number.
pub record AddsTaken (es : List Edit) (ds : List DeletedFile) (xs : List AddedFile) (number : ℕ)
    : Type 0 where
  pub front : List AddedFile
  pub one : AddedFile
  pub back : List AddedFile
  pub parts : xs ≡ front ++ one ∷ back
  pub number_is : one.file.number ≡ number
  pub taken : IsTaken es ds front number
  pub before : AreNew es ds front

-- the fault of additions, if memory did not run out
abbrev pub IsDouble : List Edit → List DeletedFile → List AddedFile → ReplayFault → Type 0
IsDouble es ds xs OutOfMemory = Unit {0}
IsDouble es ds xs NoNextFile = ⊥
IsDouble es ds xs NoLogNumber = ⊥
IsDouble es ds xs NoLastSequence = ⊥
IsDouble es ds xs OtherComparator = ⊥
IsDouble es ds xs (DoubleFile number) = AddsTaken es ds xs number

abbrev pub NamesOther : Edit → Type 0
NamesOther e = IsSomeAnd e.comparator (λ name. name ≡ codes "leveldb.BytewiseComparator" → ⊥)

-- The edit, after the edits before it, has no fault.
pub record IsInnocent (es : List Edit) (e : Edit) : Type 0 where
  pub comparator : NamesOther e → ⊥
  pub added : AreNew es e.deleted e.added

-- The edit, after the edits before it, has this fault. The comparator is judged first.
abbrev pub HasFault : List Edit → Edit → ReplayFault → Type 0
HasFault es e OutOfMemory = Unit {0}
HasFault es e NoNextFile = ⊥
HasFault es e NoLogNumber = ⊥
HasFault es e NoLastSequence = ⊥
HasFault es e OtherComparator = NamesOther e
HasFault es e (DoubleFile number) = (NamesOther e → ⊥) × AddsTaken es e.deleted e.added number

-- No edit of these has a fault.
abbrev pub AreInnocent : List Edit → Type 0
AreInnocent edits = (earlier : List Edit) (e : Edit) (later : List Edit)
    → edits ≡ earlier ++ e ∷ later → IsInnocent earlier e

-- The first edit that has a fault has this one.
pub record IsFirstFault (edits : List Edit) (fault : ReplayFault) : Type 0 where
  pub earlier : List Edit
  pub edit : Edit
  pub later : List Edit
  pub parts : edits ≡ earlier ++ edit ∷ later
  pub innocent : AreInnocent earlier
  pub is : HasFault earlier edit fault

-- the fault of a row of edits, if memory did not run out
abbrev pub IsFault : List Edit → ReplayFault → Type 0
IsFault edits OutOfMemory = Unit {0}
IsFault edits NoNextFile = ⊥
IsFault edits NoLogNumber = ⊥
IsFault edits NoLastSequence = ⊥
IsFault edits OtherComparator = IsFirstFault edits OtherComparator
IsFault edits (DoubleFile number) = IsFirstFault edits (DoubleFile number)

-- ---- last values

-- the last pointer of a level in a list
unfoldable pub pointer_in : ℕ → List CompactPointer → Option (List ℕ)
pointer_in level ps = last_by (λ p. if p.level == level then Some p.key else None) ps

abbrev pub last_log : List Edit → Option ℕ
last_log es = last_by (λ e. e.log) es

abbrev pub last_prev_log : List Edit → Option ℕ
last_prev_log es = last_by (λ e. e.prev_log) es

abbrev pub last_next : List Edit → Option ℕ
last_next es = last_by (λ e. e.next) es

abbrev pub last_sequence : List Edit → Option ℕ
last_sequence es = last_by (λ e. e.last) es

abbrev pub last_pointer : ℕ → List Edit → Option (List ℕ)
last_pointer level es = last_by (λ e. pointer_in level e.pointers) es
