-- Lives of a database, each of which begins with an opening, the first one with the making of the
-- database; and ends with a crash, or without one.
use Rattle.std.specs.Prelude.{◌≡◌, ◌⊎◌, ℕ, ◌≤◌, List, [], ◌∷◌, ◌++◌, Option, Some, None}
use Rattle.atomic_table.specs.Seated.{TableId}
use Rattle.lsm_codec.specs.Entries.{Entry, answer}
use Rattle.lsm_codec.specs.Keys.{UserKey}
use Rattle.lsm_codec.specs.Lists.{Has}
use Rattle.lsm_shelf.specs.Asked.{Asked}
use Rattle.lsm_model.specs.Files.{all_entries}
use Rattle.lsm_version.specs.Versions.{Levels, files}
use Rattle.lsm_batch.specs.Batches.{entries_from}
use Rattle.lsm_state.specs.Held.{Held}
use Rattle.lsm_crash.specs.Disk.{Disk}
use Rattle.lsm_crash.specs.Crash.{Found, IsFresh, IsLeft}
use Rattle.lsm_crash.specs.Versions.{ComesTo, Version}
use Rattle.lsm_crash.specs.Known.{Known, World, current_name, known_of, nothing}
use Rattle.lsm_crash.specs.Operations.{Start, either, started, starting}
use Rattle.lsm_crash.specs.Among.{CutAmong, CutDropping, DoneAmong, DoneDropping}
use Rattle.lsm_crash.specs.History.{IsRead}
use Rattle.lsm_crash.specs.Database.{Answered, Builds, Collect, Deed, Gather, HasMade, Ingest}
use Rattle.lsm_crash.specs.Database.{Install, IsCut, IsMade, IsState, Looks, Opens, Refused, Turn}
use Rattle.lsm_crash.specs.Database.{Works, opened_world, plans_of}
use Rattle.lsm_journal.specs.declared.manifest_limit.ManifestLimit.{ManifestLimit}

-- ---- what ingests bring in, and what reads give

-- the entries of all ingests that were answered Ok, the latest first
abbrev pub brought : List Turn → List Entry
brought [] = []
brought (Answered (Ingest ws r) ∷ turns) = brought turns ++ entries_from r.first ws
brought (Answered (Install done) ∷ turns) = brought turns
brought (Answered (Gather number) ∷ turns) = brought turns
brought (Answered (Collect removed) ∷ turns) = brought turns
brought (Refused deed ∷ turns) = brought turns
brought (Builds number image ∷ turns) = brought turns
brought (Looks ∷ turns) = brought turns

-- A read at the version's last sequence gives what it gives over all these entries, of which none
-- is above that sequence.
pub record Answers (v : Levels) (es : List Entry) : Type 0 where
  pub reads : (k : UserKey) → answer (all_entries (files v)) k v.last ≡ answer es k v.last
  pub upto : (e : Entry) → Has es e → e.seq ≤ v.last

-- ---- one life

pub data Life : Type 0 where
  -- it was opened, or made, and left between two calls of the database, without a crash
  Closed : (h now : Held) (turns : List Turn) → Life
  -- it was opened, or made, and the crash came between two calls of the database
  Worked : (h now : Held) (turns : List Turn) → Life
  -- the crash came in a call, which would have left the state `new`
  Struck : (h now new : Held) (turns : List Turn) (deed : Deed) → Life
  -- the crash came while it was opened, or made
  Unopened : (h : Held) → Life

-- a crash, after which this world is read of the folder that was found, on its disk
abbrev pub Crashed : Known → (d : Disk) → (u : World) → (e : Disk) → Type 0
Crashed known d u e = (found : Found) × IsLeft d found × IsFresh found e × IsRead known found u

-- From a life's beginning, which was answered Ok or was cut by a crash, to the disk that may be
-- opened next, with what is counted on.
abbrev pub LivedFrom : Type 0 → TableId → (Begun : Held → World → Disk → Type 0)
    → (Cut : Held → Known → Disk → Type 0) → Life → (u : World) → (e : Disk) → Type 0
LivedFrom honest board Begun Cut (Closed h now turns) u e = (x : World) × (m : Disk)
    × Begun h x m × Works honest board h now turns x u m e
LivedFrom honest board Begun Cut (Worked h now turns) u e = (x : World) × (y : World) × (m : Disk)
    × (n : Disk) × Begun h x m × Works honest board h now turns x y m n × Crashed (known_of y) n u e
LivedFrom honest board Begun Cut (Struck h now new turns deed) u e = (x : World) × (y : World)
    × (m : Disk) × (n : Disk) × (known : Known) × (o : Disk) × Begun h x m
    × Works honest board h now turns x y m n × IsCut honest board now new deed y known n o
    × Crashed known o u e
LivedFrom honest board Begun Cut (Unopened h) u e = (known : Known) × (m : Disk)
    × Cut h known m × Crashed known m u e

-- it was opened
abbrev pub Begins : Type 0 → TableId → ManifestLimit → Held → (w u : World) → (d e : Disk)
    → Type 0
Begins honest board limit h w u d e = (v : Version) × (asks : List Asked)
    × IsState honest board h × (p : Opens honest limit h d) × HasMade asks p.was p.is
    × ComesTo h.journal.bytes v
    × DoneDropping w.tables h.journal.number (plans_of p.begun.before.number asks) d e
    × (u ≡ opened_world h v w)

-- the opening was cut; so much is known
abbrev pub BeginsCut : Type 0 → TableId → ManifestLimit → Held → World → Known → (d e : Disk)
    → Type 0
BeginsCut honest board limit h w known d e = (v : Version) × (asks : List Asked)
    × IsState honest board h × (p : Opens honest limit h d) × HasMade asks p.was p.is
    × ComesTo h.journal.bytes v
    × CutDropping w.tables h.journal.number (plans_of p.begun.before.number asks) d e
    × (known ≡ either w (Start h.journal.number h.journal.bytes v))

-- from the disk that is opened
abbrev pub Lived : Type 0 → TableId → ManifestLimit → Life → (w : World) → (d : Disk)
    → (u : World) → (e : Disk) → Type 0
Lived honest board limit life w d u e = LivedFrom honest board
    (λ h x m. Begins honest board limit h w x d m)
    (λ h known m. BeginsCut honest board limit h w known d m) life u e

-- The version that is left, and all that came in until then: what was answered Ok, and perhaps what
-- was being brought in.
abbrev pub MayLeave : Life → List Entry → Levels → List Entry → Type 0
MayLeave (Closed h now turns) es v fs = (v ≡ now.slots.version) × (fs ≡ brought turns ++ es)
MayLeave (Worked h now turns) es v fs = (v ≡ now.slots.version) × (fs ≡ brought turns ++ es)
MayLeave (Struck h now new turns deed) es v fs = ((v ≡ now.slots.version)
    × (fs ≡ brought turns ++ es)) ⊎ ((v ≡ new.slots.version)
    × (fs ≡ brought (Answered deed ∷ []) ++ (brought turns ++ es)))
MayLeave (Unopened h) es v fs = (v ≡ h.slots.version) × (fs ≡ es)

-- ---- many lives

-- one after another, each over the folder that the one before it left, with a board and a limit of
-- manifests of its own
abbrev pub Ages : Type 0 → List Life → (w : World) → (d : Disk) → (u : World) → (e : Disk) → Type 0
Ages honest [] w d u e = (u ≡ w) × (e ≡ d)
Ages honest (life ∷ lives) w d u e = (board : TableId) × (limit : ManifestLimit) × (x : World)
    × (m : Disk) × Lived honest board limit life w d x m × Ages honest lives x m u e

-- the version that the last one left, and all that came in until then
abbrev pub AllLeave : List Life → (v : Levels) → (es : List Entry) → Levels → List Entry → Type 0
AllLeave [] v es u fs = (u ≡ v) × (fs ≡ es)
AllLeave (life ∷ lives) v es u fs = (x : Levels) × (gs : List Entry) × MayLeave life es x gs
    × AllLeave lives x gs u fs

-- ---- from a folder without a database

-- it was made there
abbrev pub Makes : Type 0 → TableId → Held → World → (d e : Disk) → Type 0
Makes honest board h u d e = (v : Version) × (asks : List Asked) × IsState honest board h
    × (m : IsMade h) × HasMade asks m.was m.now × ComesTo h.journal.bytes v
    × DoneAmong nothing.tables (plans_of m.number asks) d e
    × (u ≡ started nothing h.journal.number h.journal.bytes v)

-- that was cut; so much is known
abbrev pub MakesCut : Type 0 → TableId → Held → Known → (d e : Disk) → Type 0
MakesCut honest board h known d e = (v : Version) × (asks : List Asked) × IsState honest board h
    × (m : IsMade h) × HasMade asks m.was m.now × ComesTo h.journal.bytes v
    × CutAmong nothing.tables (plans_of m.number asks) d e
    × (known ≡ starting nothing h.journal.number v)

-- the first life, over a folder without `CURRENT`
abbrev pub FirstLived : Type 0 → TableId → Life → (d : Disk) → (u : World) → (e : Disk) → Type 0
FirstLived honest board life d u e = LivedFrom honest board
    (λ h x m. Makes honest board h x d m) (λ h known m. MakesCut honest board h known d m) life u e

-- a crash, after which there is no `CURRENT`
abbrev pub Emptied : (d e : Disk) → Type 0
Emptied d e = (found : Found) × IsLeft d found × IsFresh found e × (found current_name ≡ None)

-- From a folder without `CURRENT` on: tries to make a database, each of which a crash cut so that
-- there is none; then a first life and others, or none yet. What is counted on where there is one.
abbrev pub FromNothing : Type 0 → (tries : List Held) → List Life → (d : Disk)
    → (o : Option World) → (e : Disk) → Type 0
FromNothing honest [] [] d o e = (o ≡ None) × (e ≡ d)
FromNothing honest [] (life ∷ lives) d o e = (board : TableId) × (x : World) × (m : Disk)
    × (u : World) × FirstLived honest board life d x m × Ages honest lives x m u e × (o ≡ Some u)
FromNothing honest (h ∷ tries) lives d o e = (board : TableId) × (known : Known) × (m : Disk)
    × (n : Disk) × MakesCut honest board h known d m × Emptied m n
    × FromNothing honest tries lives n o e

-- ---- two small lives

-- From this disk on there is such a life; and any opening of what it left is a life more, or is
-- one where a crash cuts it.
pub record SmallAges (honest : Type 0) (board : TableId) (limit : ManifestLimit) (life : Life)
    (w : World) (d : Disk) : Type 0 where
  pub world : World
  pub left : Disk
  pub lived : Lived honest board limit life w d world left
  pub again : (other : TableId) (more : ManifestLimit) (h : Held) → Opens honest more h left
      → IsState honest other h
      → (u : World) × (e : Disk) × Ages honest (life ∷ Closed h h [] ∷ []) w d u e
  pub cut : (other : TableId) (more : ManifestLimit) (h : Held) → Opens honest more h left
      → IsState honest other h
      → (u : World) × (e : Disk) × Ages honest (life ∷ Unopened h ∷ []) w d u e
