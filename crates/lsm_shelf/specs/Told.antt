-- What contracts see of a shelf's value, and what a call leaves of it (this project's rule).
use Rattle.std.specs.Prelude.{◌≡◌, ℕ, zero, suc, ◌+◌, ◌-◌, ◌^◌, ◌≤◌, min, List, [], ◌∷◌, ◌++◌}
use Rattle.std.specs.Prelude.{Option, None, Some, Result, Ok, Err}
pub use Rattle.lsm_shelf.specs.Place.{Place, in_memory, at_path}
use Rattle.lsm_shelf.specs.Asked.{Asked, Put, Remove, StartManifest, AppendManifest}
use Rattle.lsm_shelf.specs.declared.shelf_fault.ShelfFault.{ShelfFault}
use Rattle.lsm_shelf.specs.declared.shelf_fault.ShelfFault.TheVariants.{OutOfMemory, Device}
use Rattle.lsm_shelf.specs.declared.shelf_fault.ShelfFault.TheVariants.{Missing, Taken}

-- a shelf's value, as its calls told it
pub record Told : Type 0 where
  -- its contents, which forks share
  pub place : Place
  -- how often it answered that the device failed
  pub faults : ℕ
  -- how often it answered that something is missing or taken
  pub misses : ℕ
  -- the numbers that it put, the last first
  pub puts : List ℕ
  -- the numbers that it was asked to remove, the last first
  pub gone : List ℕ
  -- the numbers that it last listed
  pub listed : Option (List ℕ)
  -- the number of the manifest that it last started or read
  pub manifest : Option ℕ
  -- that manifest's bytes, with what was appended since
  pub sent : List ℕ
  -- number and bytes of the manifest that it last read
  pub found : Option (ℕ × List ℕ)
  -- the numbers of the manifests that it started, the last first
  pub starts : List ℕ
  -- all bytes that it wrote to manifests, at their start or behind it
  pub written : List ℕ
  -- the number of the last fork that it gave; before that 0, and of a fork its own number
  pub forks : ℕ
  -- the calls by which it changed what lies there, the last first: puts, starts and appends that
  -- were answered Ok, and removals that were asked of the device
  pub made : List Asked

-- a value that was opened, and to which nothing was told yet
abbrev pub fresh : Place → Told
fresh p = record {
  place = p;
  faults = 0;
  misses = 0;
  puts = [];
  gone = [];
  listed = None;
  manifest = None;
  sent = [];
  found = None;
  starts = [];
  written = [];
  forks = 0;
  made = [];
}

-- A fork of this number, to which nothing was told yet. Forks are numbered in the order in which a
-- value gives them. One of another fork begins above the number of that; so what has the numbers of
-- a value's next forks, none left out, is these forks
abbrev pub fork_at : Place → ℕ → Told
fork_at p number = record (fresh p) { forks = number }

-- a fork, to which nothing was told yet
abbrev pub IsUntoldFork : Told → Type 0
IsUntoldFork t = t ≡ fork_at t.place t.forks

-- the fork that it gives next
abbrev pub next_fork : Told → Told
next_fork t = fork_at t.place (t.forks + 1)

-- so many forks of these contents, in their order, which were given behind that of this number
abbrev pub forks_behind : Place → ℕ → ℕ → List Told
forks_behind p number zero = []
forks_behind p number (suc count) = fork_at p (number + 1) ∷ forks_behind p (number + 1) count

-- the second is the first, but for counts, which do not fall
pub record Becomes (old new : Told) : Type 0 where
  pub place : new.place ≡ old.place
  pub faults : old.faults ≤ new.faults
  pub misses : old.misses ≤ new.misses
  pub puts : new.puts ≡ old.puts
  pub gone : new.gone ≡ old.gone
  pub listed : new.listed ≡ old.listed
  pub manifest : new.manifest ≡ old.manifest
  pub sent : new.sent ≡ old.sent
  pub found : new.found ≡ old.found
  pub starts : new.starts ≡ old.starts
  pub written : new.written ≡ old.written
  pub forks : new.forks ≡ old.forks
  pub made : new.made ≡ old.made

-- it put a table of this number, with this image
abbrev pub putting : ℕ → List ℕ → Told → Told
putting number image t = record t { puts = number ∷ t.puts; made = Put number image ∷ t.made }

-- it was asked to remove this number
abbrev pub removing : ℕ → Told → Told
removing number t = record t { gone = number ∷ t.gone; made = Remove number ∷ t.made }

-- it listed these numbers
abbrev pub listing : List ℕ → Told → Told
listing numbers t = record t { listed = Some numbers }

-- it started the manifest of this number, with these bytes
abbrev pub sending : ℕ → List ℕ → Told → Told
sending number bytes t = record t {
  manifest = Some number;
  sent = bytes;
  starts = number ∷ t.starts;
  written = t.written ++ bytes;
  made = StartManifest number bytes ∷ t.made;
}

-- it put these bytes behind those of the manifest
abbrev pub appending : List ℕ → Told → Told
appending bytes t = record t {
  sent = t.sent ++ bytes;
  written = t.written ++ bytes;
  made = AppendManifest bytes ∷ t.made;
}

-- it read the manifest, which has this number and these bytes
abbrev pub finding : ℕ → List ℕ → Told → Told
finding number bytes t = record t
    { manifest = Some number; sent = bytes; found = Some (number, bytes) }

-- it gave so many forks
abbrev pub forking : ℕ → Told → Told
forking count t = record t { forks = t.forks + count }

-- it gave just so many forks, and nothing else was told but counts
abbrev pub ForkedTimes : ℕ → Told → Told → Type 0
ForkedTimes count old new = Becomes (forking count old) new

-- so many at most
abbrev pub ForkedAtMost : ℕ → Told → Told → Type 0
ForkedAtMost most old new = (count : ℕ) × (count ≤ most) × ForkedTimes count old new

-- any number of them
abbrev pub Forked : Told → Told → Type 0
Forked old new = (count : ℕ) × ForkedTimes count old new

-- What a removal leaves: where memory was refused, nothing was asked yet
abbrev pub removed_by : {T : Type 0} → Result T ShelfFault → ℕ → Told → Told
removed_by (Ok v) number t = removing number t
removed_by (Err OutOfMemory) number t = t
removed_by (Err Device) number t = removing number t
removed_by (Err Missing) number t = removing number t
removed_by (Err (Taken n)) number t = removing number t

-- one more, and a count at its last value stays there
abbrev pub next_count : ℕ → ℕ
next_count n = min (n + 1) (2 ^ 64 - 1)

-- a refusal of the shelf is counted once, and nothing else is
abbrev pub CountedBy : {T : Type 0} → Result T ShelfFault → Told → Told → Type 0
CountedBy (Ok v) old new = (new.faults ≡ old.faults) × (new.misses ≡ old.misses)
CountedBy (Err OutOfMemory) old new = (new.faults ≡ old.faults) × (new.misses ≡ old.misses)
CountedBy (Err Device) old new = (new.faults ≡ next_count old.faults) × (new.misses ≡ old.misses)
CountedBy (Err Missing) old new = (new.faults ≡ old.faults) × (new.misses ≡ next_count old.misses)
CountedBy (Err (Taken n)) old new = (new.faults ≡ old.faults) × (new.misses ≡ next_count old.misses)

-- just so many forks were given, no refusal was counted, and nothing else was told
abbrev pub GivesForks : ℕ → Told → Told → Type 0
GivesForks count old new = ForkedTimes count old new × CountedBy {T = Unit {0}} (Ok tt) old new

-- so many at most were given, this refusal was counted once, as far as it is counted, and nothing
-- else was told
abbrev pub RefusesFork : (most : ℕ) → ShelfFault → Told → Told → Type 0
RefusesFork most fault old new =
    ForkedAtMost most old new × CountedBy {T = Unit {0}} (Err fault) old new

abbrev pub Rose : ℕ → ℕ → Type 0
Rose old new = next_count old ≤ new

-- a refusal of the shelf, in this call or a later one, comes only with a count that rose
abbrev pub Counted : ShelfFault → Told → Told → Type 0
Counted OutOfMemory old new = Unit {0}
Counted Device old new = Rose old.faults new.faults
Counted Missing old new = Rose old.misses new.misses
Counted (Taken n) old new = Rose old.misses new.misses

-- the refusals of a call for which a name can be missing
abbrev pub NotTaken : ShelfFault → Type 0
NotTaken OutOfMemory = Unit {0}
NotTaken Device = Unit {0}
NotTaken Missing = Unit {0}
NotTaken (Taken n) = ⊥

-- the refusals of a call for which this number can be taken
abbrev pub TakenIs : ℕ → ShelfFault → Type 0
TakenIs number OutOfMemory = Unit {0}
TakenIs number Device = Unit {0}
TakenIs number Missing = ⊥
TakenIs number (Taken n) = n ≡ number

-- the refusals of a call that needs no name
abbrev pub NotNamed : ShelfFault → Type 0
NotNamed OutOfMemory = Unit {0}
NotNamed Device = Unit {0}
NotNamed Missing = ⊥
NotNamed (Taken n) = ⊥

-- the refusals of a shelf that has no device
abbrev pub NotDevice : ShelfFault → Type 0
NotDevice OutOfMemory = Unit {0}
NotDevice Device = ⊥
NotDevice Missing = Unit {0}
NotDevice (Taken n) = Unit {0}
