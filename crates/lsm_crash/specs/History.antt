-- What may come to pass of a database: runs, operations that were cut or refused, crashes, starts
-- over what is known, in any order and as often as one likes.
use Rattle.std.specs.Prelude.{◌≡◌, ℕ, ◌^◌, ◌<◌, List, [], ◌∷◌, Some, None}
use Rattle.lsm_storage.specs.FileNames.{manifest_name, current_text}
use Rattle.lsm_storage.specs.Plans.{start_plan}
use Rattle.lsm_crash.specs.Disk.{Disk, Shows}
use Rattle.lsm_crash.specs.Crash.{Found, IsFresh, IsLeft}
use Rattle.lsm_crash.specs.Versions.{ComesTo, Version}
use Rattle.lsm_crash.specs.Known.{IsHeld, IsSettled, Known, World, current_name, known_of, nothing}
use Rattle.lsm_crash.specs.Operations.{Allows, MayStart, Operation, either, started}
use Rattle.lsm_crash.specs.Operations.{starting}
use Rattle.lsm_crash.specs.Among.{CutDropping, CutOf, DoneDropping, Event, Goes, IsGap}

-- The world that is read from a folder: `CURRENT` names its manifest, which has its bytes, and
-- these come to its version.
pub record IsRead (known : Known) (found : Found) (w : World) : Type 0 where
  pub small : w.manifest < 2 ^ 64
  pub current : found current_name ≡ Some (current_text w.manifest)
  pub its : found (manifest_name w.manifest) ≡ Some w.bytes
  pub comes : ComesTo w.bytes w.version
  pub tables : w.tables ≡ known.tables

-- what is known between two steps of a history: the world, or what may be
pub data Phase : Type 0 where
  Sure : World → Phase
  Unsure : Known → Phase

abbrev pub IsPhase : Phase → Disk → Type 0
IsPhase (Sure w) d = IsSettled d w
IsPhase (Unsure known) d = IsHeld d known

pub data Move : Type 0 where
  -- operations, each answered Ok or refused so that the database goes on
  Runs : (w : World) (events : List Event) (u : World) → Move
  -- an operation that a crash cuts, or that is refused anyhow
  Breaks : (w : World) (o : Operation) → Move
  -- a crash to come, or an opening, between two operations
  Rests : (w : World) → Move
  -- a manifest is started over what is known
  Starts : (known : Known) (number : ℕ) (bytes : List ℕ) (version : Version) → Move
  -- that is cut or refused
  Stops : (known : Known) (number : ℕ) (bytes : List ℕ) (version : Version) → Move
  -- and `CURRENT` does not show it
  StopsUnseen : (known : Known) (number : ℕ) (bytes : List ℕ) (version : Version) → Move
  -- calls of other threads
  Others : (known : Known) → Move
  -- a crash, after which this world is read
  Crashes : (known : Known) (found : Found) (w : World) → Move
  -- a crash, after which there is no `CURRENT`
  Empties : (known : Known) (found : Found) → Move

abbrev pub before : Move → Phase
before (Runs w events u) = Sure w
before (Breaks w o) = Sure w
before (Rests w) = Sure w
before (Starts known number bytes version) = Unsure known
before (Stops known number bytes version) = Unsure known
before (StopsUnseen known number bytes version) = Unsure known
before (Others known) = Unsure known
before (Crashes known found w) = Unsure known
before (Empties known found) = Unsure known

abbrev pub behind : Move → Phase
behind (Runs w events u) = Sure u
behind (Breaks w o) = Unsure (either w o)
behind (Rests w) = Unsure (known_of w)
behind (Starts known number bytes version) = Sure (started known number bytes version)
behind (Stops known number bytes version) = Unsure (starting known number version)
behind (StopsUnseen known number bytes version) = Unsure known
behind (Others known) = Unsure known
behind (Crashes known found w) = Sure w
behind (Empties known found) = Unsure nothing

-- when it may come to pass, and what it makes of the disk
abbrev pub Passes : Move → Disk → Disk → Type 0
Passes (Runs w events u) d e = Goes w events u d e
Passes (Breaks w o) d e = Allows w o × CutOf w o d e
Passes (Rests w) d e = e ≡ d
Passes (Starts known number bytes version) d e = MayStart known number bytes version
    × DoneDropping known.tables number (start_plan number bytes) d e
Passes (Stops known number bytes version) d e = MayStart known number bytes version
    × CutDropping known.tables number (start_plan number bytes) d e
Passes (StopsUnseen known number bytes version) d e = MayStart known number bytes version
    × CutDropping known.tables number (start_plan number bytes) d e
    × (Shows e current_name (current_text number) → ⊥)
Passes (Others known) d e = IsGap known.tables d e
Passes (Crashes known found w) d e = IsLeft d found × IsFresh found e × IsRead known found w
Passes (Empties known found) d e = IsLeft d found × IsFresh found e × (found current_name ≡ None)

abbrev pub History : Phase → List Move → Phase → Disk → Disk → Type 0
History p [] q d e = (q ≡ p) × (e ≡ d)
History p (m ∷ ms) q d e = (before m ≡ p)
    × ((mid : Disk) × Passes m d mid × History (behind m) ms q mid e)
