-- What a scan shows: each user key with its answer, in order (LevelDB's `doc/impl.md` and
-- `include/leveldb/db.h`, iterators).
use Rattle.std.specs.Prelude.{◌≡◌, ℕ, Bool, false, ◌||◌, not, cond, List, [], ◌∷◌, Option, Some}
use Rattle.std.specs.Prelude.{None, nat_le}
use Rattle.std.specs.Str.{bytes_eq}
use Rattle.lsm_codec.specs.declared.kind.Kind.{Kind}
use Rattle.lsm_codec.specs.declared.kind.Kind.TheVariants.{Deletion, Value}
use Rattle.lsm_codec.specs.Lists.{Has}
use Rattle.lsm_codec.specs.Keys.{UserKey, UserLe}
use Rattle.lsm_codec.specs.Entries.{Entry, answer}

-- a user key with its value
abbrev pub Pair : Type 0
Pair = UserKey × List ℕ

-- each user key is greater than the ones before it
abbrev pub UsersAscend : List Pair → Type 0
UsersAscend [] = Unit {0}
UsersAscend (p ∷ ps) = ((q : Pair) → Has ps q → UserLe p.0 q.0 × (p.0 ≡ q.0 → ⊥)) × UsersAscend ps

-- each user key that has an answer at the sequence, with it, and no other, ascending
pub record IsScan (s : ℕ) (es : List Entry) (pairs : List Pair) : Type 0 where
  pub right : (k : UserKey) (v : List ℕ) → Has pairs (k, v) → answer es k s ≡ Some v
  pub whole : (k : UserKey) (v : List ℕ) → answer es k s ≡ Some v → Has pairs (k, v)
  pub ascending : UsersAscend pairs

-- ---- how the code shows them

-- the user key is the one that was answered last
abbrev pub is_answered : Option UserKey → UserKey → Bool
is_answered None k = false
is_answered (Some own) k = bytes_eq own k

-- nothing is shown for the entry, as its user key was answered or it is too new
abbrev pub is_passed : ℕ → Option UserKey → Entry → Bool
is_passed s told e = is_answered told e.user || not (nat_le e.seq s)

-- a value is shown, a deletion is not
abbrev pub put_pair : Kind → Pair → List Pair → List Pair
put_pair Deletion p ps = ps
put_pair Value p ps = p ∷ ps

-- what is shown of the entries that are left, where `told` is the user key that was answered last
abbrev pub pairs_of : ℕ → Option UserKey → List Entry → List Pair
pairs_of s told [] = []
pairs_of s told (e ∷ es) = cond (is_passed s told e) (pairs_of s told es)
    (put_pair e.kind (e.user, e.value) (pairs_of s (Some e.user) es))

-- there is a first entry, and nothing is shown for it
abbrev pub is_head_passed : ℕ → Option UserKey → List Entry → Bool
is_head_passed s told [] = false
is_head_passed s told (e ∷ es) = is_passed s told e
