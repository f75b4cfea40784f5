-- The calls of a database, as the contracts of its state have them: what each asks of its shelf, in
-- which order, and what it leaves of the folder where other threads make calls between.
use Rattle.std.specs.Prelude.{◌≡◌, ◌⊎◌, ℕ, suc, ◌+◌, ◌^◌, ◌<◌, ◌≤◌, false, List, [], ◌∷◌, ◌++◌}
use Rattle.std.specs.Prelude.{Some, None, if◌then◌else◌}
use Rattle.atomic_table.specs.Seated.{TableId}
use Rattle.lsm_codec.specs.Entries.{Entry}
use Rattle.lsm_codec.specs.Lists.{Has}
use Rattle.lsm_model.specs.Plain.{Spends}
use Rattle.lsm_model.specs.Plain as machine
use Rattle.lsm_model.specs.Runs.{Event, Run, ingested}
use Rattle.lsm_storage.specs.FileNames.{table_name, manifest_name, current_text}
use Rattle.lsm_storage.specs.Plans.{Step as Planned, append_plan, put_plan, remove_plan, start_plan}
use Rattle.lsm_shelf.specs.Told.{Told, Becomes, sending}
use Rattle.lsm_shelf.specs.Asked.{Asked}
use Rattle.lsm_shelf.specs.Asked as shelf
use Rattle.lsm_shelf.specs.declared.shelf_fault.ShelfFault.{ShelfFault}
use Rattle.lsm_table.specs.Registry.{Table}
use Rattle.lsm_version.specs.Versions.{level_in, numbers_in}
use Rattle.lsm_pins.specs.Known.{Known as Pinned}
use Rattle.lsm_batch.specs.declared.write.Write.{Write}
use Rattle.lsm_journal.specs.Difference.{Difference}
use Rattle.lsm_live.specs.Booked.{Booked}
use Rattle.lsm_merge.specs.Outputs.{going, putting_all}
use Rattle.lsm_merge.specs.Work.{Done, IsFinished, puts_by}
use Rattle.lsm_slots.specs.Slots.{AreSlots}
use Rattle.lsm_state.specs.Asked.{ChangeRefused, CollectRefused, InstallRefused, PutRefused}
use Rattle.lsm_state.specs.Collecting.{AreCollected, HasLookedAround, IsCollectRefusal, is_in}
use Rattle.lsm_state.specs.Gathering.{Gathers, IsGatherRefusal, IsGathering}
use Rattle.lsm_state.specs.Held.{Held, IsLawfulState, plain}
use Rattle.lsm_state.specs.Ingesting.{Ingests, IsIngestRefusal, IsWelcome, coming_in, entries_of}
use Rattle.lsm_state.specs.Ingesting.{last_of, with_slots}
use Rattle.lsm_state.specs.Installing.{Installed, IsInstallRefusal, IsInstalling, MayInstall}
use Rattle.lsm_state.specs.Making.{created_state_under}
use Rattle.lsm_state.specs.Opening.{IsBegun}
use Rattle.lsm_state.specs.declared.gather_fault.GatherFault.{GatherFault}
use Rattle.lsm_state.specs.declared.options.Options.{Options}
use Rattle.lsm_state.specs.declared.ingest.Ingested.{Ingested}
use Rattle.lsm_state.specs.declared.state_fault.StateFault.{StateFault}
use Rattle.lsm_crash.specs.Disk.{Disk, Shows, empty_disk}
use Rattle.lsm_crash.specs.Crash.{Found, IsLeft}
use Rattle.lsm_crash.specs.Versions.{ComesTo, Tables, Version}
use Rattle.lsm_crash.specs.Known.{Known, Stands, World, current_name, known_of, nothing}
use Rattle.lsm_crash.specs.Operations.{Allows, Append, Operation, Put, Remove, Start, after, either}
use Rattle.lsm_crash.specs.Operations.{started}
use Rattle.lsm_crash.specs.Among.{CutOf, DoneAmong, DoneOf, FailsAmong, IsGap, counting, failed}
use Rattle.lsm_crash.specs.States.{Finds}
use Rattle.lsm_journal.specs.declared.manifest_limit.ManifestLimit.{ManifestLimit}

-- ---- what a call asks of its shelf

-- The operations that calls of a shelf are, where the manifest comes to this version after them;
-- one that only reads is none.
abbrev pub operations : Version → List Asked → List Operation
operations v [] = []
operations v (shelf.Put number image ∷ asks) = Put number image ∷ operations v asks
operations v (shelf.ReadAt number offset len ∷ asks) = operations v asks
operations v (shelf.Load number ∷ asks) = operations v asks
operations v (shelf.Remove number ∷ asks) = Remove number ∷ operations v asks
operations v (shelf.ListTables ∷ asks) = operations v asks
operations v (shelf.ReadManifest ∷ asks) = operations v asks
operations v (shelf.StartManifest number bytes ∷ asks) = Start number bytes v ∷ operations v asks
operations v (shelf.AppendManifest text ∷ asks) = Append text v ∷ operations v asks

-- The calls by which the value of a shelf changed what lies there, in their order: by just these
-- its own list of them grew.
abbrev pub HasMade : List Asked → (was is : Told) → Type 0
HasMade asks was is = is.made ≡ going asks was.made

-- a call that changes the version, or removes tables, with its Ok answer
pub data Deed : Type 0 where
  Ingest : (ws : List Write) (r : Ingested) → Deed
  Install : (done : Done) → Deed
  -- the newest files of level 0 became one, of this number
  Gather : (number : ℕ) → Deed
  Collect : (removed : List ℕ) → Deed

-- What the contract says of the call where it is answered Ok, and the calls that it made of its
-- shelf.
abbrev pub Asks : Type 0 → (old new : Held) → Deed → List Asked → Type 0
Asks honest old new (Ingest ws r) asks = (was : Told) × (is : Told) × IsWelcome old ws
    × Ingests old new ws r was is × HasMade asks was is
Asks honest old new (Install done) asks = (was : Told) × (is : Told) × MayInstall old done
    × Installed old new done was is × HasMade asks was is
Asks honest old new (Gather number) asks = (was : Told) × (is : Told)
    × Gathers honest old new number was is × HasMade asks was is
Asks honest old new (Collect removed) asks = (was : Told) × (is : Told) × (old.halted ≡ false)
    × HasLookedAround old new × (new ≡ with_slots old new.slots) × AreCollected new removed was is
    × HasMade asks was is

-- What is supposed besides. A job whose result is installed is finished, as its type says; the
-- worker's shelf was told what `compact` says; and each table that it put, by its own list, is
-- counted on. Numbers fit 64 bits.
abbrev pub IsReady : Type 0 → Deed → World → Type 0
IsReady honest (Ingest ws r) w = Unit {0}
IsReady honest (Install done) w = (was : Told) × (is : Told) × (asks : List Asked)
    × IsFinished honest done × Becomes (putting_all (puts_by done) was) is × HasMade asks was is
    × ((number : ℕ) (image : List ℕ) → Has asks (shelf.Put number image)
    → w.tables number ≡ Some image)
IsReady honest (Gather number) w = Unit {0}
IsReady honest (Collect removed) w = (number : ℕ) → Has removed number → number < 2 ^ 64

-- ---- what a refused call asked of its shelf

-- the call that was refused, in the words of the clauses `asked`
abbrev pub Was : List Asked → Asked → ShelfFault → Type 0
Was next ask fault = next ≡ ask ∷ []

-- no call of the shelf was refused, or one of which this holds
abbrev pub IsNext : List Asked → (ShelfFault → Type 0) → Type 0
IsNext next Refused = (next ≡ []) ⊎ ((fault : ShelfFault) × Refused fault)

-- the put of the table, and after it the write of the manifest
abbrev pub IsNextOfIngest : Held → List Write → List Asked → List Asked → Type 0
IsNextOfIngest h ws [] next = IsNext next (PutRefused (Was next) h ws)
IsNextOfIngest h ws (ask ∷ asks) next = IsNext next (λ fault. (t : Table)
    × ChangeRefused (Was next) (record h { next = suc h.next }) (coming_in t (last_of h ws)) fault)

-- a read, or the put of the one file, and after it the write of the manifest
abbrev pub IsNextOfGather : Held → List Asked → List Asked → Type 0
IsNextOfGather h [] next = IsNext next (λ fault. ((v : Version) → operations v next ≡ [])
    ⊎ ((image : List ℕ) × Was next (shelf.Put h.next image) fault))
IsNextOfGather h (ask ∷ asks) next = IsNext next (λ fault. (change : Difference)
    × ChangeRefused (Was next) (record h { next = suc h.next }) change fault)

-- What the contract says of the call where it is refused; the calls of its shelf that were answered
-- Ok; and the one that was refused, if any. A removal that was refused may have come to the device,
-- and then it stands in the shelf's list too.
abbrev pub Refuses : Type 0 → (old new : Held) → Deed → (asks next : List Asked) → Type 0
Refuses honest old new (Ingest ws r) asks next = (fault : StateFault) × (was : Told) × (is : Told)
    × IsIngestRefusal old new ws fault was is × HasMade asks was is
    × IsNextOfIngest old ws asks next
Refuses honest old new (Install done) asks next = (fault : StateFault) × (was : Told) × (is : Told)
    × IsInstallRefusal old new done fault was is × Becomes was is × HasMade asks was is
    × IsNext next (InstallRefused (Was next) old done)
Refuses honest old new (Gather number) asks next = (fault : GatherFault) × (was : Told)
    × (is : Told) × IsGatherRefusal honest old new fault was is × HasMade asks was is
    × IsNextOfGather old asks next
Refuses honest old new (Collect removed) asks next = (fault : StateFault) × (was : Told)
    × (is : Told) × (new ≡ with_slots old new.slots) × IsCollectRefusal old new fault removed was is
    × (HasMade asks was is ⊎ HasMade (asks ++ next) was is)
    × IsNext next (CollectRefused (Was next) new)
    × ((number : ℕ) → Has (asks ++ next) (shelf.Remove number) → number < 2 ^ 64)

-- ---- operations one after another

-- what the database counts on once all were answered Ok
abbrev pub after_all : World → List Operation → World
after_all w [] = w
after_all w (o ∷ os) = after_all (after w o) os

-- each may be asked for when it comes
abbrev pub AllowsAll : World → List Operation → Type 0
AllowsAll w [] = Unit {0}
AllowsAll w (o ∷ os) = Allows w o × AllowsAll (after w o) os

-- all were answered Ok
abbrev pub AllDone : World → List Operation → World → Disk → Disk → Type 0
AllDone w [] u d e = (u ≡ w) × IsGap w.tables d e
AllDone w (o ∷ os) u d e = (mid : Disk) × DoneOf w o d mid × AllDone (after w o) os u mid e

-- All of the first ones were Ok; then one was refused so that the database goes on, if there is
-- any.
abbrev pub AllFail : World → (os next : List Operation) → World → Disk → Disk → Type 0
AllFail w [] [] u d e = (u ≡ w) × IsGap w.tables d e
AllFail w [] (o ∷ next) u d e = FailsAmong w o d e × (u ≡ failed w o)
AllFail w (o ∷ os) next u d e = (mid : Disk) × DoneOf w o d mid
    × AllFail (after w o) os next u mid e

-- A front of them was Ok, and the next one was cut by a crash, or refused anyhow; so much is known.
abbrev pub AllCut : World → List Operation → Known → Disk → Disk → Type 0
AllCut w [] known d e = (known ≡ known_of w) × IsGap w.tables d e
AllCut w (o ∷ os) known d e = (CutOf w o d e × (known ≡ either w o))
    ⊎ ((mid : Disk) × DoneOf w o d mid × AllCut (after w o) os known mid e)

-- ---- calls one after another

-- the law of a state, with that of its slots
abbrev pub IsState : Type 0 → TableId → Held → Type 0
IsState honest board h = IsLawfulState honest board h × AreSlots h.slots

-- Manifest and version are as before, and the state goes on; numbers may be spent.
pub record Stays (old new : Held) : Type 0 where
  pub version : new.slots.version ≡ old.slots.version
  pub journal : new.journal ≡ old.journal
  pub going : new.halted ≡ false
  pub next : old.next ≤ new.next
  pub fits : new.next < 2 ^ 64

-- a live job has drawn the number
abbrev pub IsDrawn : Held → ℕ → Type 0
IsDrawn h number = (b : Booked) × Has h.live b × Has b.drawn number

pub data Turn : Type 0 where
  -- a call that was answered Ok
  Answered : Deed → Turn
  -- one that was refused, and the state goes on
  Refused : Deed → Turn
  -- the worker of a live job has put a table
  Builds : (number : ℕ) (image : List ℕ) → Turn
  -- any call that leaves manifest and version, and asks the shelf for nothing but to read
  Looks : Turn

-- What a turn leaves: of the state, of what is counted on, of the disk. After a refused call the
-- state goes on.
abbrev pub Turns : Type 0 → TableId → (old new : Held) → Turn → (w u : World) → (d e : Disk)
    → Type 0
Turns honest board old new (Answered deed) w u d e = (v : Version) × (asks : List Asked)
    × Asks honest old new deed asks × IsReady honest deed w × ComesTo new.journal.bytes v
    × AllDone w (operations v asks) u d e
Turns honest board old new (Refused deed) w u d e = (asks : List Asked) × (next : List Asked)
    × Refuses honest old new deed asks next × (new.halted ≡ false)
    × AllFail w (operations w.version asks) (operations w.version next) u d e
Turns honest board old new (Builds number image) w u d e = (new ≡ old) × IsDrawn old number
    × (u ≡ counting number image w)
    × ((mid : Disk) × IsGap w.tables d mid × Stands mid (table_name number) image
    × IsGap u.tables mid e)
Turns honest board old new Looks w u d e = Stays old new × (u ≡ w) × IsGap w.tables d e

-- nothing comes in
abbrev pub IsQuiet : List Event → Type 0
IsQuiet events = (es : List Entry) → ingested events es ≡ es

-- What the contract says of a turn as an event of the plain machine.
abbrev pub Follows : Type 0 → (old new : Held) → Turn → Type 0
Follows honest old new (Answered (Ingest ws r)) = machine.Ingests (plain old) (entries_of old ws)
    (plain new)
Follows honest old new (Answered (Install done)) = IsInstalling honest old done.work.ticket new
Follows honest old new (Answered (Gather number)) = IsGathering honest old new
Follows honest old new (Answered (Collect removed)) = plain new ≡ plain old
Follows honest old new (Refused deed) = Spends (plain old) (plain new)
Follows honest old new (Builds number image) = Unit {0}
Follows honest old new Looks = (events : List Event) × IsQuiet events
    × Run honest (plain old) events (plain new)

-- A batch of these writes came in and was answered so: by the contract of `ingest`, and on the
-- plain machine.
pub record IsIngestOf (honest : Type 0) (board : TableId) (old new : Held) (ws : List Write)
    (r : Ingested) : Type 0 where
  pub was : Told
  pub is : Told
  pub before : IsState honest board old
  pub after : IsState honest board new
  pub welcome : IsWelcome old ws
  pub ingests : Ingests old new ws r was is
  pub event : machine.Ingests (plain old) (entries_of old ws) (plain new)

-- turns one after another
abbrev pub Works : Type 0 → TableId → (old new : Held) → List Turn → (w u : World) → (d e : Disk)
    → Type 0
Works honest board old new [] w u d e = (new ≡ old) × (u ≡ w) × IsGap w.tables d e
Works honest board old new (turn ∷ turns) w u d e = (mid : Held) × (x : World) × (m : Disk)
    × IsState honest board mid × Turns honest board old mid turn w x d m
    × Follows honest old mid turn × Works honest board mid new turns x u m e

-- The call would have been answered Ok, and a crash cuts it in a call of its folder, or that call
-- is refused; so much is known then. It is supposed that its calls are the first of those that it
-- makes where it is answered Ok.
abbrev pub IsCut : Type 0 → TableId → (old new : Held) → Deed → World → Known → (d e : Disk)
    → Type 0
IsCut honest board old new deed w known d e = (v : Version) × (asks : List Asked)
    × IsState honest board new × Asks honest old new deed asks × IsReady honest deed w
    × ComesTo new.journal.bytes v × Follows honest old new (Answered deed)
    × AllCut w (operations v asks) known d e

-- ---- a database is opened, or made

-- the calls on the folder by which calls of a shelf change it, one after another, where the
-- manifest has this number
abbrev pub plans_of : ℕ → List Asked → List Planned
plans_of manifest [] = []
plans_of manifest (shelf.Put number image ∷ asks) = put_plan number image ++ plans_of manifest asks
plans_of manifest (shelf.ReadAt number offset len ∷ asks) = plans_of manifest asks
plans_of manifest (shelf.Load number ∷ asks) = plans_of manifest asks
plans_of manifest (shelf.Remove number ∷ asks) = remove_plan number ++ plans_of manifest asks
plans_of manifest (shelf.ListTables ∷ asks) = plans_of manifest asks
plans_of manifest (shelf.ReadManifest ∷ asks) = plans_of manifest asks
plans_of manifest (shelf.StartManifest number bytes ∷ asks) = start_plan number bytes
    ++ plans_of number asks
plans_of manifest (shelf.AppendManifest text ∷ asks) = append_plan manifest text
    ++ plans_of manifest asks

-- the tables of these numbers
abbrev pub only_of : List ℕ → Tables → Tables
only_of numbers tables n = if is_in numbers n then tables n else None

-- what is counted on once a manifest of this version was started: the tables of the version
abbrev pub opened_world : Held → Version → World → World
opened_world h v w = record {
  manifest = h.journal.number;
  bytes = h.journal.bytes;
  version = v;
  tables = only_of (numbers_in h.slots.version) w.tables;
}

-- What the contract says of an `open` that is answered Ok, of the manifest that the folder shows;
-- the tables of the version have the images that the folder shows.
pub record Opens (honest : Type 0) (limit : ManifestLimit) (h : Held) (d : Disk) : Type 0 where
  pub was : Told
  pub is : Told
  pub begun : IsBegun honest limit h.journal h.slots.version h.next was is
  pub current : Shows d current_name (current_text begun.before.number)
  pub manifest : Shows d (manifest_name begun.before.number) begun.before.bytes
  pub images : (level : ℕ) (t : Table) → Has (level_in h.slots.version.tables level) t
      → Shows d (table_name t.number) t.image

-- What the contract says of a new state, under the number of its manifest, and of its shelf.
pub record IsMade (h : Held) : Type 0 where
  pub number : ℕ
  pub options : Options
  pub publisher : Pinned
  pub pinners : List Pinned
  pub is : h ≡ created_state_under number options publisher pinners
  pub fits : number + 1 < 2 ^ 64
  pub was : Told
  pub now : Told
  pub sent : Becomes (sending number h.journal.bytes was) now

-- ---- a small run

-- A new database in an empty folder, a call that is answered Ok, and a crash behind it: the disks
-- between, and what is found.
pub record SmallRun (honest : Type 0) (board : TableId) (h new : Held) (v : Version)
    (first : List Asked) (manifest : ℕ) (deed : Deed) : Type 0 where
  pub made : Disk
  pub world : World
  pub now : Disk
  pub found : Found
  pub start : DoneAmong nothing.tables (plans_of manifest first) empty_disk made
  pub works : Works honest board h new (Answered deed ∷ [])
      (started nothing h.journal.number h.journal.bytes v) world made now
  pub left : IsLeft now found
  pub finds : Finds new.slots.version found
