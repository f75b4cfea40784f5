-- Searching a table for the newest entry that a read may see: it is the first at or after the user
-- key, the read's sequence and the greatest kind (LevelDB's `db/dbformat.h`, the key for a lookup).
use Rattle.std.specs.Prelude.{◌≡◌, ℕ, cond, List, [], ◌∷◌, Option, Some, None}
use Rattle.std.specs.Str.{bytes_eq}
use Rattle.lsm_codec.specs.declared.kind.Kind.TheVariants.{Value}
use Rattle.lsm_codec.specs.Keys.{UserKey, InternalKey}
use Rattle.lsm_codec.specs.Entries.{Entry}
use Rattle.lsm_block.specs.Seeking.{not_below}
use Rattle.lsm_table.specs.declared.search.Search.{Search}
use Rattle.lsm_table.specs.declared.search.Search.TheVariants.{GoesOn, Ended}
use Rattle.lsm_table.specs.Found.{seen, found_in}
use Rattle.lsm_table.specs.HeldTable.{Names}

-- the key from which on a read looks
abbrev pub read_key : UserKey → ℕ → InternalKey
read_key k s = record { user = k; seq = s; kind = Value }

-- the first of the entries, if it is the user key's
abbrev pub of_user : UserKey → List Entry → Option Entry
of_user k [] = None
of_user k (e ∷ es) = cond (bytes_eq e.user k) (Some e) None

-- what a search of one data block tells of a user key, where these entries are not below the key
abbrev pub Tells : UserKey → List Entry → Search → Type 0
Tells k es GoesOn = es ≡ []
Tells k [] (Ended found) = ⊥
Tells k (e ∷ es) (Ended found) = seen found ≡ found_in (of_user k (e ∷ es))

-- These index entries name all that is not below the key, of the entries.
pub record Sought (key : InternalKey) (body : List ℕ) (index entries : List Entry) : Type 0 where
  pub left : List Entry
  pub names : Names body index left
  pub same : not_below key entries ≡ not_below key left
