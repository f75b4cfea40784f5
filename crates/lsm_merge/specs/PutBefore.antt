-- What a merge that is refused has put (this project's rule).
use Rattle.std.specs.Prelude.{◌≡◌, ℕ, ◌⊎◌, Bool, true, List, [], ◌∷◌, ◌++◌}
use Rattle.lsm_codec.specs.Lists.{Has}
use Rattle.lsm_codec.specs.Keys.{UserKey}
use Rattle.lsm_codec.specs.Entries.{Entry}
use Rattle.lsm_shelf.specs.Told.{Told, Becomes, putting}
use Rattle.lsm_table.specs.Registry.{Table}
use Rattle.lsm_table.specs.declared.table_options.TableOptions.{TableOptions}
use Rattle.lsm_model.specs.Files.{all_entries}
use Rattle.lsm_model.specs.Streams.{IsMerge}
use Rattle.lsm_version.specs.Versions.{IsWhole}
use Rattle.lsm_merge.specs.Cuts.{closes}
use Rattle.lsm_merge.specs.Dropping.{IsMerged}
use Rattle.lsm_merge.specs.InputOrder.{HasTwins, StandInOrder}
use Rattle.lsm_merge.specs.Inputs.{entries_of_tables, numbers_of}
use Rattle.lsm_merge.specs.Outputs.{Made, entries_of_last, putting_all}
use Rattle.lsm_merge.specs.Work.{IsBuilt, Work, contents_of, finished, job_of, puts_of}

-- With some more behind them they hold the kept entries of the job's inputs, merged and cut: so
-- they are the first of the tables that its merge makes.
pub record AreFirstOf (w : Work) (contents : List (List Entry)) : Type 0 where
  pub merged : List Entry
  pub merges : IsMerge merged (all_entries (job_of w).inputs)
  pub more : List (List Entry)
  pub is : IsMerged w.floor w.ranges (finished w.table) w.target_size merged (contents ++ more)

-- The shelf was told to put these tables one after another, under these numbers. Each has an entry,
-- and is byte for byte what the builder makes of its entries with the job's sizes. (Of one whose
-- record found no memory the index tells nothing.)
pub record PutsBefore (Honest : Type 0) (w : Work) (numbers : List ℕ) (was is : Told) : Type 0 where
  pub tables : List Table
  pub numbers_are : numbers_of tables ≡ numbers
  pub told : Becomes (putting_all (puts_of tables) was) is
  pub whole : (t : Table) → Has tables t → IsWhole t
  pub built : (t : Table) → Has tables t → IsBuilt w.table t
  -- over an honest shelf they hold entries of the inputs alone
  pub from : Honest → (e : Entry) → Has (entries_of_tables tables) e
      → Has (all_entries (job_of w).inputs) e
  -- and where the inputs stand in order and no two of their entries have one internal key, they are
  -- the first that the merge makes
  pub first : Honest → StandInOrder w → (HasTwins (all_entries (job_of w).inputs) → ⊥)
      → (tables ≡ []) ⊎ AreFirstOf w (contents_of tables)

-- ---- in a step

-- nothing was put; or this image, under this number
abbrev pub PutsPerhaps : ℕ → List ℕ → List ℕ → List ℕ → Told → Told → Type 0
PutsPerhaps number image old new was is =
    ((new ≡ old) × Becomes was is)
    ⊎ ((new ≡ old ++ number ∷ []) × Becomes (putting number image was) is)

-- No table was put; or, when it was time for that, the one of these entries.
pub record PutsOne (options : TableOptions) (es : List Entry) (Time : Type 0) (old new : List ℕ)
    (was is : Told) : Type 0 where
  pub tables : List Table
  pub grown : new ≡ old ++ numbers_of tables
  pub told : Becomes (putting_all (puts_of tables) was) is
  pub whole : (t : Table) → Has tables t → IsWhole t
  pub built : (t : Table) → Has tables t → IsBuilt options t
  pub one : (tables ≡ []) ⊎ ((contents_of tables ≡ es ∷ []) × Time)

-- the same of the output in the making
abbrev pub PutsLast : Made → Type 0 → List ℕ → Told → Told → Type 0
PutsLast m Time new was is = PutsOne m.options (entries_of_last m.last) Time m.put new was is

-- an entry of this user key closes it
abbrev pub IsClosing : Made → UserKey → Type 0
IsClosing m user = closes (finished m.options) m.target (entries_of_last m.last) user ≡ true

-- the entry is kept, and closes it
abbrev pub IsTime : Made → Bool → Entry → Type 0
IsTime m kept e = (kept ≡ true) × IsClosing m e.user
