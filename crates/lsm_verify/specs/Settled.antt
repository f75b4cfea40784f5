-- The age order of files, and where their ranges and sequences alone settle it (that a key's
-- entries are newer the shallower they lie is what LevelDB's `doc/impl.md` builds on; what settles
-- it is this project's rule).
use Rattle.std.specs.Prelude.{◌≡◌, ℕ, ◌<◌, ◌≤◌, ◌⊎◌, List, [], ◌∷◌, length}
use Rattle.lsm_codec.specs.Lists.{Has}
use Rattle.lsm_codec.specs.Entries.{Entry}
use Rattle.lsm_table.specs.Registry.{Table}
use Rattle.lsm_table.specs.HeldTable.{entries_in}
use Rattle.lsm_model.specs.Files.{File, Meets, Shallower}
use Rattle.lsm_verify.specs.declared.aged.Aged.{Aged}
use Rattle.lsm_verify.specs.declared.sequences.Sequences.{Sequences}
use Rattle.lsm_version.specs.Reads.{IsRising}
use Rattle.lsm_version.specs.Versions.{files_of, level_in}

-- of two entries of a user key the one that lies shallower has the greater sequence
abbrev pub KeepsAge : List File → Type 0
KeepsAge v = (F G : File) (x y : Entry) → Has v F → Has v G → Shallower F G → Has F.entries x
    → Has G.entries y → x.user ≡ y.user → y.seq < x.seq

-- the least sequence of F is at most the greatest of G
abbrev pub Reaches : File → File → Type 0
Reaches F G = (x : Entry) × (y : Entry) × Has F.entries x × Has G.entries y × (x.seq ≤ y.seq)

-- F lies shallower than G, their ranges of user keys meet, and the greatest sequence of G is not
-- below the least of F
abbrev pub IsUnsettled : File → File → Type 0
IsUnsettled F G = Shallower F G × Meets F G.low G.high × Reaches F G

-- There are no two such files: ranges and sequences alone say that the files keep the age order.
abbrev pub IsSettled : List File → Type 0
IsSettled v = (F G : File) → Has v F → Has v G → IsUnsettled F G → ⊥

-- one of two such files has the number
abbrev pub IsOneUnsettled : List File → ℕ → Type 0
IsOneUnsettled v n = (F : File) × (G : File) × Has v F × Has v G × IsUnsettled F G
    × ((n ≡ F.number) ⊎ (n ≡ G.number))

-- ---- the sequences of a table

-- the least and the greatest sequence of these entries, and how many there are
pub record AreSequencesOf (entries : List Entry) (s : Sequences) : Type 0 where
  pub above : (e : Entry) → Has entries e → s.least ≤ e.seq
  pub below : (e : Entry) → Has entries e → e.seq ≤ s.greatest
  pub least : (e : Entry) × Has entries e × (e.seq ≡ s.least)
  pub greatest : (e : Entry) × Has entries e × (e.seq ≡ s.greatest)
  pub count : s.count ≡ length entries

-- those of each table of a level
abbrev pub AreSequences : List Table → List Sequences → Type 0
AreSequences [] [] = Unit {0}
AreSequences [] (s ∷ ss) = ⊥
AreSequences (t ∷ ts) [] = ⊥
AreSequences (t ∷ ts) (s ∷ ss) = AreSequencesOf (entries_in t.image) s × AreSequences ts ss

-- and of all levels
abbrev pub AreLevelSequences : List (List Table) → List (List Sequences) → Type 0
AreLevelSequences [] [] = Unit {0}
AreLevelSequences [] (ss ∷ rest) = ⊥
AreLevelSequences (ts ∷ levels) [] = ⊥
AreLevelSequences (ts ∷ levels) (ss ∷ rest) = AreSequences ts ss × AreLevelSequences levels rest

-- ---- the ages of the tables of level 0

-- the number and the sequences of the file
pub record IsAged (F : File) (a : Aged) : Type 0 where
  pub number : a.number ≡ F.number
  pub sequences : AreSequencesOf F.entries a.sequences

-- each file has its own among these
abbrev pub AreAged : List File → List Aged → Type 0
AreAged v ages = (F : File) → Has v F → (a : Aged) × Has ages a × IsAged F a

-- Of these, each has its number here whose least sequence is at most the greatest of one of a
-- lesser number.
abbrev pub NamesReaching : List Aged → List ℕ → Type 0
NamesReaching ages numbers = (a b : Aged) → Has ages a → Has ages b → b.number < a.number
    → a.sequences.least ≤ b.sequences.greatest → Has numbers a.number

-- Of these tables of a level, each has its number here that is not settled with one of them, and
-- lies shallower.
abbrev pub NamesUnsettled : ℕ → List Table → List ℕ → Type 0
NamesUnsettled level ts numbers =
    (F G : File) → Has (files_of level ts) F → Has (files_of level ts) G → IsUnsettled F G
    → Has numbers F.number

-- ---- how the code looks for such files

-- Of the pairs of files of which `Q` tells, just the numbers of those that are not settled were
-- added.
pub record Adds (Q : File → File → Type 0) (old new : List ℕ) : Type 0 where
  pub kept : (n : ℕ) → Has old n → Has new n
  pub first : (F G : File) → Q F G → IsUnsettled F G → Has new F.number
  pub second : (F G : File) → Q F G → IsUnsettled F G → Has new G.number
  pub said : (n : ℕ) → Has new n
      → Has old n ⊎ ((F : File) × (G : File) × Q F G × IsUnsettled F G
      × ((n ≡ F.number) ⊎ (n ≡ G.number)))

-- X is F, and Y is G
abbrev pub OnePair : File → File → File → File → Type 0
OnePair F G X Y = (X ≡ F) × (Y ≡ G)

-- X is F, and Y is a file of these tables of a level
abbrev pub OneAgainst : File → ℕ → List Table → File → File → Type 0
OneAgainst F n us X Y = (X ≡ F) × Has (files_of n us) Y

-- a file of a level from m on, and below k
abbrev pub Between : ℕ → ℕ → List (List Table) → File → Type 0
Between m k levels Y = (n : ℕ) × (m ≤ n) × (n < k) × Has (files_of n (level_in levels n)) Y

-- X is F, and Y is one of those
abbrev pub OneBelow : File → ℕ → ℕ → List (List Table) → File → File → Type 0
OneBelow F m k levels X Y = (X ≡ F) × Between m k levels Y

-- X is a file of these tables of a level, and Y one of that level or of a deeper one
abbrev pub SomeBelow : ℕ → List Table → List (List Table) → File → File → Type 0
SomeBelow m ts levels X Y = Has (files_of m ts) X × Between m (length levels) levels Y

-- X is a file of a level below k, and Y one of that level or of a deeper one
abbrev pub EachBelow : ℕ → List (List Table) → File → File → Type 0
EachBelow k levels X Y = (n : ℕ) × (n < k) × SomeBelow n (level_in levels n) levels X Y

-- the levels from 1 on rise
abbrev pub DeeperRise : List (List Table) → Type 0
DeeperRise levels = (n : ℕ) → 1 ≤ n → IsRising (level_in levels n)

abbrev pub Both : List File → File → File → Type 0
Both v X Y = Has v X × Has v Y

-- These are the numbers of the files of which ranges and sequences alone don't settle the age
-- order.
abbrev pub AreUnsettled : List File → List ℕ → Type 0
AreUnsettled v numbers = Adds (Both v) [] numbers
