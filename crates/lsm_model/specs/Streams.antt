-- What a merge streams, and how its entries are cut into outputs.
use Rattle.std.specs.Prelude.{◌≡◌, ℕ, ◌<◌, Bool, false, ◌&&◌, not, cond, List, [], ◌∷◌, ◌++◌}
use Rattle.std.specs.Prelude.{Option, Some, None, nat_le}
use Rattle.std.specs.Str.{bytes_eq}
use Rattle.lsm_codec.specs.Lists.{Has}
use Rattle.lsm_codec.specs.Keys.{UserKey}
use Rattle.lsm_codec.specs.Entries.{Entry}
use Rattle.lsm_model.specs.Files.{File, all_entries, Before}
use Rattle.lsm_model.specs.Kept.{is_void}

-- each entry stands before the ones after it
abbrev pub IsAscending : List Entry → Type 0
IsAscending [] = Unit {0}
IsAscending (x ∷ xs) = ((y : Entry) → Has xs y → Before x y) × IsAscending xs

-- merged has the entries of es, in order
pub record IsMerge (merged es : List Entry) : Type 0 where
  pub ascending : IsAscending merged
  pub from : (e : Entry) → Has merged e → Has es e
  pub to : (e : Entry) → Has es e → Has merged e

-- the entry before e, dropped or not, has its user key and a sequence at most the floor
abbrev pub is_shadowed : ℕ → Option Entry → Entry → Bool
is_shadowed floor None e = false
is_shadowed floor (Some p) e = bytes_eq p.user e.user && nat_le p.seq floor

-- what is kept of a stream after the entry before it
abbrev pub streamed : ℕ → List (UserKey × UserKey) → Option Entry → List Entry → List Entry
streamed floor ranges before [] = []
streamed floor ranges before (e ∷ es) =
    cond (not (is_shadowed floor before e)
    && not (is_void floor ranges e)) (e
    ∷ streamed floor ranges (Some e) es) (streamed floor ranges (Some e) es)

-- the entries begin and end at the file's range
pub record Ends (F : File) : Type 0 where
  pub first : (x : Entry) × (rest : List Entry) × (F.entries ≡ x ∷ rest) × (x.user ≡ F.low)
  pub last : (front : List Entry) × (x : Entry) × (F.entries ≡ front ++ x ∷ []) × (x.user ≡ F.high)

-- a cut lies between two user keys
abbrev pub CutAtKeys : List File → Type 0
CutAtKeys [] = Unit {0}
CutAtKeys (F ∷ []) = Unit {0}
CutAtKeys (F ∷ G ∷ rest) = (F.high ≡ G.low → ⊥) × CutAtKeys (G ∷ rest)

-- each number is less than the ones after it
abbrev pub NumbersRise : List File → Type 0
NumbersRise [] = Unit {0}
NumbersRise (F ∷ rest) = ((G : File) → Has rest G → F.number < G.number) × NumbersRise rest

-- outs are K in pieces, at that level
pub record IsCut (level : ℕ) (K : List Entry) (outs : List File) : Type 0 where
  pub whole : all_entries outs ≡ K
  pub levels : (F : File) → Has outs F → F.level ≡ level
  pub ends : (F : File) → Has outs F → Ends F
  pub cuts : CutAtKeys outs
  pub rising : NumbersRise outs
