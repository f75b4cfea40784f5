-- What a merge has made so far: tables that were put, and an output in the making.
use Rattle.std.specs.Prelude.{◌≡◌, ℕ, List, [], ◌∷◌, ◌++◌, map, Option, Some, None}
use Rattle.lsm_codec.specs.Entries.{Entry}
use Rattle.lsm_codec.specs.Lists.{Has}
use Rattle.lsm_shelf.specs.Asked.{Put}
use Rattle.lsm_shelf.specs.Told.{Told, Becomes}
use Rattle.lsm_table.specs.Registry.{Table}
use Rattle.lsm_table.specs.HeldTable.{entries_in}
use Rattle.lsm_table.specs.Options.{AreInRange}
use Rattle.lsm_table.specs.declared.table_options.TableOptions.{TableOptions}
use Rattle.lsm_version.specs.Versions.{IsWhole}
use Rattle.lsm_merge.specs.Dropping.{Making}
use Rattle.lsm_merge.specs.Work.{IsBuilt, contents_of, puts_of}

-- an output in the making, under its number
pub record Unfinished : Type 0 where
  pub number : ℕ
  pub options : TableOptions
  pub entries : List Entry

-- the tables that were put, their numbers, and the output in the making, with the sizes of the job
pub record Made : Type 0 where
  pub ticket : ℕ
  pub options : TableOptions
  pub target : ℕ
  pub tables : List Table
  pub put : List ℕ
  pub last : Option Unfinished

abbrev pub entries_of_last : Option Unfinished → List Entry
entries_of_last None = []
entries_of_last (Some output) = output.entries

-- the entries of each
abbrev pub making_of : Made → Making
making_of m = record { outputs = contents_of m.tables; output = entries_of_last m.last }

abbrev pub number_of_last : Option Unfinished → Option ℕ
number_of_last None = None
number_of_last (Some output) = Some output.number

-- it has an entry, and is written with these options
abbrev pub IsWrittenBy : TableOptions → Option Unfinished → Type 0
IsWrittenBy options None = Unit {0}
IsWrittenBy options (Some output) = (output.options ≡ options) × (output.entries ≡ [] → ⊥)

-- the tables that were put are whole and written with the job's sizes, and the numbers are theirs
pub record AreGood (m : Made) : Type 0 where
  pub in_range : AreInRange m.options
  pub whole : (t : Table) → Has m.tables t → IsWhole t
  pub built : (t : Table) → Has m.tables t → IsBuilt m.options t
  pub numbers : map (λ t. t.number) m.tables ≡ m.put
  pub written : IsWrittenBy m.options m.last

-- the job's sizes stay
pub record SameSizes (old new : Made) : Type 0 where
  pub ticket : new.ticket ≡ old.ticket
  pub options : new.options ≡ old.options
  pub target : new.target ≡ old.target

-- what was made comes to this
pub record Goes (old new : Made) (making : Making) : Type 0 where
  pub sizes : SameSizes old new
  pub good : AreGood new
  pub is : making_of new ≡ making

-- a table of the output's entries is put under its number, written with its sizes
pub record IsPut (output : Unfinished) (tables tables' : List Table) (put put' : List ℕ)
    : Type 0 where
  pub table : Table
  pub whole : IsWhole table
  pub entries : entries_in table.image ≡ output.entries
  pub built : IsBuilt output.options table
  pub number : table.number ≡ output.number
  pub tables_are : tables' ≡ tables ++ table ∷ []
  pub put_are : put' ≡ put ++ output.number ∷ []

-- these one after another, and then those that were there: the last comes first
abbrev pub going : {X : Type 0} → List X → List X → List X
going [] there = there
going (x ∷ xs) there = going xs (x ∷ there)

-- it put tables of these numbers, with these images, one after another
abbrev pub putting_all : List (ℕ × List ℕ) → Told → Told
putting_all tables t = record t {
  puts = going (map (λ p. p.0) tables) t.puts;
  made = going (map (λ p. Put p.0 p.1) tables) t.made;
}

-- the shelf was told to put tables of just these numbers one after another, each with an image
pub record PutsEach (numbers : List ℕ) (was is : Told) : Type 0 where
  pub tables : List (ℕ × List ℕ)
  pub numbers_are : map (λ p. p.0) tables ≡ numbers
  pub told : Becomes (putting_all tables was) is

-- the list of the numbers put grew by some, and the shelf was told to put just these
pub record PutsMore (old new : List ℕ) (was is : Told) : Type 0 where
  pub more : List ℕ
  pub grown : new ≡ old ++ more
  pub told : PutsEach more was is

-- the list of the tables grew by some, and the shelf was told to put just these
pub record PutsTables (old new : List Table) (was is : Told) : Type 0 where
  pub more : List Table
  pub grown : new ≡ old ++ more
  pub told : Becomes (putting_all (puts_of more) was) is

-- the numbers that were drawn: those that were put, and then that of the output in the making
abbrev pub drawn_for : List ℕ → Option ℕ → List ℕ → List ℕ
drawn_for put None there = going put there
drawn_for put (Some number) there = number ∷ going put there

abbrev pub drawn_of : Made → List ℕ → List ℕ
drawn_of m there = drawn_for m.put (number_of_last m.last) there
