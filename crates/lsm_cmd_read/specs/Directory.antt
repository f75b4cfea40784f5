-- What a directory holds, as a shelf on it gave it (LevelDB's `doc/impl.md`, "Manifest").
use Rattle.std.specs.Prelude.{◌≡◌, ◌⊎◌, ℕ, List, All}
use Rattle.lsm_shelf.specs.Told.{Told, Becomes, finding, listing}
use Rattle.lsm_version.specs.Versions.{Levels}
use Rattle.lsm_journal.specs.declared.manifest_limit.ManifestLimit.{ManifestLimit}
use Rattle.lsm_journal.specs.Finding.{IsFound}
use Rattle.lsm_journal.specs.HeldManifest.{HeldManifest}
use Rattle.lsm_directory.specs.declared.folder.named_manifest.NamedManifest.{NamedManifest}

-- Between these moments the shelf was asked for its manifest at most, then to list its tables at
-- most, and else for nothing but tables: it put no table, was asked to remove none, and began and
-- appended to no manifest. Where it read its manifest and listed its tables, it was told nothing
-- else.
abbrev pub OnlyReads : Told → Told → Type 0
OnlyReads was is =
    Becomes was is ⊎ ((number : ℕ) × (bytes : List ℕ)
    × (Becomes (finding number bytes was) is
    ⊎ ((listed : List ℕ) × Becomes (listing listed (finding number bytes was)) is)))

-- Between these moments the shelf read its manifest, listed its tables, and else read nothing but
-- tables. The manifest has this number. It is edits, and so many bytes at its end hold no whole
-- record; the edits come to a shape with these numbers of the write-ahead log and of the one before
-- it. The version has the tables of that shape, no two files have one number, and the version is
-- sound: over an honest shelf, and over any other one too where the age order is kept. No number of
-- a table that is listed, of a table of the version or of the manifest is 2^64 - 1.
pub record Holds (Honest : Type 0) (was is : Told) (v : Levels) (m : NamedManifest) : Type 0 where
  pub held : HeldManifest
  pub limit : ManifestLimit
  pub next : ℕ
  pub found : IsFound Honest limit held v m.rest next was is
  pub numbered : held.number ≡ m.number
  pub logs : held.log ≡ m.log
  pub previous : held.prev_log ≡ m.prev_log

-- The shelf gave the image of each table of the version, for that table's number. `Stored` says
-- which images it gave for which numbers.
abbrev pub AreGiven : (ℕ → List ℕ → Type 0) → Levels → Type 0
AreGiven Stored v = All (All (λ t. Stored t.number t.image)) v.tables
