-- What is removed beside workers (this project's rule).
use Rattle.std.specs.Prelude.{◌≡◌, ℕ, zero, suc, ◌≤◌, ◌⊎◌, ◌↔◌, Bool, List, [], ◌∷◌, ◌++◌}
use Rattle.std.specs.Prelude.{Option, None, Some}
use Rattle.lsm_codec.specs.Lists.{Has}
use Rattle.lsm_shelf.specs.Asked.{Asked, ListTables, Remove}
use Rattle.lsm_shelf.specs.Told.{Told, Becomes, forking, listing, next_fork}
use Rattle.lsm_shelf.specs.declared.shelf_fault.ShelfFault.{ShelfFault}
use Rattle.lsm_state.specs.Collecting.{IsKeptNumber, IsRemoveRefusal, IsRemovedOrKept, outside}
use Rattle.lsm_state.specs.Held.{Held}
use Rattle.lsm_state.specs.declared.state_fault.StateFault.{StateFault}

-- ---- one table

-- It was removed, and is not kept; or it is kept, and stays; or the state refused.
abbrev pub TriesToRemove : Held → ℕ → Told → Told → Type 0
TriesToRemove h n was is = ((did : Bool) × IsRemovedOrKept h n did was is)
    ⊎ ((e : StateFault) × IsRemoveRefusal h n e was is)

-- So it was at one taking of the lock, where the fact held.
pub record Removes (keeps : Held → Type 0) (n : ℕ) (was is : Told) : Type 0 where
  pub found : Held
  pub kept : ∥ keeps found ∥₁
  pub tried : TriesToRemove found n was is

-- ---- one sweep

-- each of these, one after another
abbrev pub RemovesEach : (Held → Type 0) → List ℕ → Told → Told → Type 0
RemovesEach keeps [] was is = is ≡ was
RemovesEach keeps (n ∷ ns) was is =
    (mid : Told) × Removes keeps n was mid × RemovesEach keeps ns mid is

-- those of the listed numbers that are not kept; or none, where the state did not say
abbrev pub AreLeft : Held → (listed left : List ℕ) → Type 0
AreLeft h listed left = ((kept : List ℕ) × ((n : ℕ) → Has kept n ↔ IsKeptNumber h n)
    × (left ≡ outside kept listed)) ⊎ (left ≡ [])

-- So it was at one taking of the lock, where the fact held.
pub record Leaves (keeps : Held → Type 0) (listed left : List ℕ) : Type 0 where
  pub found : Held
  pub kept : ∥ keeps found ∥₁
  pub are : AreLeft found listed left

-- Tables were listed, and then those of them removed that were not kept.
pub record Sweeps (keeps : Held → Type 0) (was is : Told) : Type 0 where
  pub listed : List ℕ
  pub mid : Told
  pub told : Becomes (listing listed was) mid
  pub left : List ℕ
  pub leaves : Leaves keeps listed left
  pub removes : RemovesEach keeps left mid is

-- or the shelf refused to list them
abbrev pub IsSwept : (Asked → ShelfFault → Type 0) → (Held → Type 0) → Told → Told → Type 0
IsSwept Refused keeps was is =
    ((fault : ShelfFault) × Refused ListTables fault × Becomes was is) ⊎ Sweeps keeps was is

-- ---- the thread that sweeps

-- so many sweeps, one after another
abbrev pub IsSweptOften : (Asked → ShelfFault → Type 0) → (Held → Type 0) → ℕ → Told → Told → Type 0
IsSweptOften Refused keeps zero was is = is ≡ was
IsSweptOften Refused keeps (suc count) was is =
    (mid : Told) × IsSweptOften Refused keeps count was mid × IsSwept Refused keeps mid is

-- It swept, so often as it did; and its shelf was told no more.
abbrev pub HasSwept : (Asked → ShelfFault → Type 0) → (Held → Type 0) → Told → Told → Type 0
HasSwept Refused keeps was is = (count : ℕ) × IsSweptOften Refused keeps count was is

-- what comes back of its thread: nothing where there was no shelf, or no thread could be made
abbrev pub IsBroughtBack : (Asked → ShelfFault → Type 0) → (Held → Type 0) → (given back
    : Option Told) → Type 0
IsBroughtBack Refused keeps given None = Unit {0}
IsBroughtBack Refused keeps None (Some is) = ⊥
IsBroughtBack Refused keeps (Some was) (Some is) = HasSwept Refused keeps was is

-- ---- forks of the last shelf

-- the last shelf became another, and the others are as they were
pub record LastBecomes (given lent : List Told) (Became : Told → Told → Type 0) : Type 0 where
  pub front : List Told
  pub was : Told
  pub is : Told
  pub before : given ≡ front ++ was ∷ []
  pub behind : lent ≡ front ++ is ∷ []
  pub became : Became was is

-- The last shelf was asked for a fork, which is this one. None: there is no shelf, or it refused,
-- and was told nothing but counts.
abbrev pub LastForks : (given lent : List Told) → (fork : Option Told) → Type 0
LastForks given lent None = ((given ≡ []) × (lent ≡ [])) ⊎ LastBecomes given lent Becomes
LastForks given lent (Some fork) = LastBecomes given lent
    (λ was is. Becomes (forking 1 was) is × (fork ≡ next_fork was))

-- so twice, one after the other
pub record AreLent (given lent : List Told) (first second : Option Told) : Type 0 where
  pub mid : List Told
  pub once : LastForks given mid first
  pub again : LastForks mid lent second

-- ---- what follows

-- the removal of a table that was not kept, at one taking of the lock, where the fact held
abbrev pub IsUnkeptRemoval : (Held → Type 0) → Asked → Type 0
IsUnkeptRemoval keeps (Remove n) =
    (found : Held) × ∥ keeps found ∥₁ × (IsKeptNumber found n → ⊥)
IsUnkeptRemoval keeps asked = ⊥

-- Tables were listed and such tables removed, and that is all: no table was put, no manifest read
-- or written, and no fork given. Counts do not fall.
pub record OnlyRemoves (keeps : Held → Type 0) (was is : Told) : Type 0 where
  pub place : is.place ≡ was.place
  pub puts : is.puts ≡ was.puts
  pub manifest : is.manifest ≡ was.manifest
  pub sent : is.sent ≡ was.sent
  pub found : is.found ≡ was.found
  pub starts : is.starts ≡ was.starts
  pub written : is.written ≡ was.written
  pub forks : is.forks ≡ was.forks
  pub faults : was.faults ≤ is.faults
  pub misses : was.misses ≤ is.misses
  pub calls : List Asked
  pub made : is.made ≡ calls ++ was.made
  pub each : (a : Asked) → Has calls a → IsUnkeptRemoval keeps a
