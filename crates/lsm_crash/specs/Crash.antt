-- What a crash may leave of a disk (this project's rule). Each name for itself, so a rename may be
-- lost in half, and names may come back in any mixture; of bytes that are not durable any
-- beginning. That what stands behind the durable bytes is such a beginning, and no other bytes, is
-- a premise.
use Rattle.std.specs.Prelude.{◌≡◌, ℕ, ◌<◌, ◌≤◌, List, [], ◌∷◌, ◌++◌, length, take, Option, None}
use Rattle.std.specs.Prelude.{Some}
use Rattle.lsm_codec.specs.Lists.{Has}
use Rattle.lsm_crash.specs.Disk.{Disk, Names}

-- the name had this file, or none, at some moment since the last sync of the folder
abbrev pub May : Disk → List ℕ → Option ℕ → Type 0
May d name o = (names : Names) × Has d.past names × (names name ≡ o)

-- of a file its durable bytes are left, and a beginning of those behind them
abbrev pub IsFileLeft : Disk → Option ℕ → Option (List ℕ) → Type 0
IsFileLeft d None None = Unit {0}
IsFileLeft d None (Some bytes) = ⊥
IsFileLeft d (Some i) None = ⊥
IsFileLeft d (Some i) (Some bytes) = (k : ℕ) × (d.kept i ≤ k) × (bytes ≡ take k (d.bytes i))

-- what is found in a folder: the bytes of each name's file
abbrev pub Found : Type 0
Found = List ℕ → Option (List ℕ)

-- A crash may leave this: each name, for itself, has a file that it had since the last sync of the
-- folder, or none if it had none.
pub record IsLeft (d : Disk) (found : Found) : Type 0 where
  pub each : (name : List ℕ) → (o : Option ℕ) × May d name o × IsFileLeft d o (found name)

-- what is found where each name has the file that it had at a moment of its own, and each file a
-- beginning of a length of its own
abbrev pub front_of : Disk → (ℕ → ℕ) → Option ℕ → Option (List ℕ)
front_of d fronts None = None
front_of d fronts (Some i) = Some (take (fronts i) (d.bytes i))

abbrev pub mixed : Disk → (List ℕ → Names) → (ℕ → ℕ) → Found
mixed d moments fronts name = front_of d fronts (moments name name)

-- a crash may leave this of the name, or this of two names
abbrev pub MayFind : Disk → List ℕ → Option (List ℕ) → Type 0
MayFind d name o = (found : Found) × IsLeft d found × (found name ≡ o)

abbrev pub MayFindBoth : Disk → (p q : List ℕ) → (of_p of_q : Option (List ℕ)) → Type 0
MayFindBoth d p q of_p of_q = (found : Found) × IsLeft d found × (found p ≡ of_p) × (found q ≡ of_q)

-- A crash of a worse disk: of a file its durable bytes are left, and behind them anything, up to
-- its length.
abbrev pub IsFileSpoilt : Disk → Option ℕ → Option (List ℕ) → Type 0
IsFileSpoilt d None None = Unit {0}
IsFileSpoilt d None (Some bytes) = ⊥
IsFileSpoilt d (Some i) None = ⊥
IsFileSpoilt d (Some i) (Some bytes) = (d.kept i ≤ length bytes)
    × (length bytes ≤ length (d.bytes i))
    × (take (d.kept i) bytes ≡ take (d.kept i) (d.bytes i))

pub record IsSpoilt (d : Disk) (found : Found) : Type 0 where
  pub each : (name : List ℕ) → (o : Option ℕ) × May d name o × IsFileSpoilt d o (found name)

-- what is found where each name has the file that it had at a moment of its own, and behind the
-- durable bytes of each file stand other bytes
abbrev pub rest_of : Disk → (ℕ → List ℕ) → Option ℕ → Option (List ℕ)
rest_of d garbage None = None
rest_of d garbage (Some i) = Some (take (d.kept i) (d.bytes i) ++ garbage i)

abbrev pub spoilt : Disk → (List ℕ → Names) → (ℕ → List ℕ) → Found
spoilt d moments garbage name = rest_of d garbage (moments name name)

-- The disk of a folder that was found and is used again: what was found is durable.
pub record IsFresh (found : Found) (d : Disk) : Type 0 where
  pub none : (name : List ℕ) → found name ≡ None → d.names name ≡ None
  pub some : (name bytes : List ℕ) → found name ≡ Some bytes → (i : ℕ) × (d.names name ≡ Some i)
      × (d.bytes i ≡ bytes) × (d.kept i ≡ length bytes)
  pub only : d.past ≡ d.names ∷ []
  pub below : (name : List ℕ) (i : ℕ) → d.names name ≡ Some i → i < d.next
  pub one : (p q : List ℕ) (i : ℕ) → d.names p ≡ Some i → d.names q ≡ Some i → p ≡ q
