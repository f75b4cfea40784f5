-- What a read has to give, of all that ever came in (this project's rule).
use Rattle.std.specs.Prelude.{◌≡◌, ℕ, ◌≤◌, ◌⊎◌, List, Option, None, Some}
use Rattle.lsm_codec.specs.declared.kind.Kind.TheVariants.{Deletion, Value}
use Rattle.lsm_codec.specs.Keys.{UserKey}
use Rattle.lsm_codec.specs.Lists.{Has}
use Rattle.lsm_codec.specs.Entries.{Entry, stamp}

-- an entry of the user key that a read at this sequence may see
abbrev pub IsSeen : UserKey → ℕ → Entry → Type 0
IsSeen k seq e = (e.user ≡ k) × (e.seq ≤ seq)

-- Of all entries of the user key that the read may see it is the newest. Stamps go by sequence, and
-- of one sequence a value is above a deletion.
pub record IsNewest (history : List Entry) (k : UserKey) (seq : ℕ) (e : Entry) : Type 0 where
  pub came : Has history e
  pub seen : IsSeen k seq e
  pub newest : (other : Entry) → Has history other → IsSeen k seq other → stamp other ≤ stamp e

-- A read of the user key at this sequence gives the value that the newest entry wrote; and none
-- where the newest one is a deletion, or where there is no entry that it may see.
abbrev pub IsReadOf : List Entry → UserKey → ℕ → Option (List ℕ) → Type 0
IsReadOf history k seq (Some value) = (e : Entry) × IsNewest history k seq e × (e.kind ≡ Value)
    × (e.value ≡ value)
IsReadOf history k seq None = ((e : Entry) → Has history e → IsSeen k seq e → ⊥)
    ⊎ ((e : Entry) × IsNewest history k seq e × (e.kind ≡ Deletion))

-- so at a sequence that no entry of the history is above
abbrev pub IsReadOfAll : List Entry → UserKey → Option (List ℕ) → Type 0
IsReadOfAll history k value = (seq : ℕ) × ((e : Entry) → Has history e → e.seq ≤ seq)
    × IsReadOf history k seq value
