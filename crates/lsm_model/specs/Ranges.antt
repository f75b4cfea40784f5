-- How the files of a level from 1 on lie, by their smallest and largest internal keys (LevelDB's
-- `doc/impl.md`, "Levels").
use Rattle.std.specs.Prelude.{◌≡◌, Bool, true, cond, List, [], ◌∷◌, ◌⊎◌}
use Rattle.std.specs.Ordering.{is_le}
use Rattle.lsm_codec.specs.Lists.{Has}
use Rattle.lsm_codec.specs.Keys.{InternalKey, UserLe, user_le, key_cmp}
use Rattle.lsm_model.specs.declared.key_range.Layout.{Layout}
use Rattle.lsm_model.specs.declared.key_range.Layout.TheVariants.{Overlap, Shared, Apart}

-- a file's smallest and largest internal key
pub record Range : Type 0 where
  pub smallest : InternalKey
  pub largest : InternalKey

-- the test of KeyLe
unfoldable pub key_le : InternalKey → InternalKey → Bool
key_le a b = is_le (key_cmp a b)

-- a stands before b, or is b
abbrev pub KeyLe : InternalKey → InternalKey → Type 0
KeyLe a b = key_le a b ≡ true

-- the two ranges have an internal key in common
abbrev pub MeetInKeys : Range → Range → Type 0
MeetInKeys a b = KeyLe a.smallest b.largest × KeyLe b.smallest a.largest

-- the two ranges have a user key in common
abbrev pub ShareUsers : Range → Range → Type 0
ShareUsers a b = UserLe a.smallest.user b.largest.user × UserLe b.smallest.user a.largest.user

-- each range with each later one
abbrev pub EachPair : (Range → Range → Type 0) → List Range → Type 0
EachPair P [] = Unit {0}
EachPair P (a ∷ rest) = ((b : Range) → Has rest b → P a b) × EachPair P rest

-- some range with a later one
abbrev pub SomePair : (Range → Range → Type 0) → List Range → Type 0
SomePair P [] = ⊥
SomePair P (a ∷ rest) = ((b : Range) × Has rest b × P a b) ⊎ SomePair P rest

-- the ranges of a level in its order: by smallest internal key
pub record IsLevel (ranges : List Range) : Type 0 where
  pub each : (a : Range) → Has ranges a → KeyLe a.smallest a.largest
  pub order : EachPair (λ a b. KeyLe a.smallest b.smallest) ranges

-- how the files of a level lie
abbrev pub IsLaidOut : List Range → Layout → Type 0
IsLaidOut ranges Overlap = SomePair MeetInKeys ranges
IsLaidOut ranges Shared = EachPair (λ a b. MeetInKeys a b → ⊥) ranges × SomePair ShareUsers ranges
IsLaidOut ranges Apart = EachPair (λ a b. ShareUsers a b → ⊥) ranges

-- ---- how the code judges: each range against the next one

abbrev pub next_layout : Range → Range → Layout
next_layout a b = cond (key_le b.smallest a.largest) Overlap
    (cond (user_le b.smallest.user a.largest.user) Shared Apart)

abbrev pub worse : Layout → Layout → Layout
worse Overlap m = Overlap
worse Shared Overlap = Overlap
worse Shared Shared = Shared
worse Shared Apart = Shared
worse Apart m = m

abbrev pub layout_along : Layout → List Range → Layout
layout_along layout [] = layout
layout_along layout (a ∷ []) = layout
layout_along layout (a ∷ b ∷ rest) = layout_along (worse layout (next_layout a b)) (b ∷ rest)
