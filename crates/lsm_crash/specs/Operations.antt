-- What a database asks of its shelf, by the shelf's plans, and when it may.
use Rattle.std.specs.Prelude.{◌≡◌, ℕ, ◌^◌, ◌<◌, List, [], ◌∷◌, ◌++◌, Some, None, false}
use Rattle.lsm_codec.specs.Lists.{Has}
use Rattle.lsm_storage.specs.Plans.{Step as Asked, put_plan, remove_plan, append_plan, start_plan}
use Rattle.lsm_crash.specs.Disk.{set}
use Rattle.lsm_crash.specs.Versions.{AreThere, ComesTo, IsNamed, LeadsTo, Tables, Version}
use Rattle.lsm_crash.specs.Known.{Known, World, known_of}

pub data Operation : Type 0 where
  Put : (number : ℕ) (image : List ℕ) → Operation
  Remove : (number : ℕ) → Operation
  -- a record that leads to this version
  Append : (text : List ℕ) (version : Version) → Operation
  -- a new manifest of this version
  Start : (number : ℕ) (bytes : List ℕ) (version : Version) → Operation

-- the calls that write; what is read before them changes nothing
abbrev pub plan_of : World → Operation → List Asked
plan_of w (Put number image) = put_plan number image
plan_of w (Remove number) = remove_plan number
plan_of w (Append text version) = append_plan w.manifest text
plan_of w (Start number bytes version) = start_plan number bytes

-- what the database counts on once it was answered Ok
abbrev pub after : World → Operation → World
after w (Put number image) = record w { tables = set w.tables number (Some image) }
after w (Remove number) = record w { tables = set w.tables number None }
after w (Append text version) = record w { bytes = w.bytes ++ text; version = version }
after w (Start number bytes version) =
    record w { manifest = number; bytes = bytes; version = version }

-- A manifest may be started under a number that `CURRENT` can't name; its bytes come to the
-- version, of which each file is among the tables.
pub record MayStart (known : Known) (number : ℕ) (bytes : List ℕ) (version : Version) : Type 0 where
  pub small : number < 2 ^ 64
  pub other : Has known.manifests number → ⊥
  pub comes : ComesTo bytes version
  pub there : AreThere version known.tables

-- When the database may do it: it puts a table under a number of none that is counted on, removes
-- what the version does not name, and appends or starts what names only tables that were put.
abbrev pub Allows : World → Operation → Type 0
Allows w (Put number image) = (number < 2 ^ 64) × (w.tables number ≡ None)
Allows w (Remove number) = (number < 2 ^ 64) × (IsNamed w.version number → ⊥)
Allows w (Append text version) = LeadsTo w.bytes text w.version version × AreThere version w.tables
Allows w (Start number bytes version) = MayStart (known_of w) number bytes version

-- the tables that are counted on before it and after it
abbrev pub sure : World → Operation → Tables
sure w (Put number image) = w.tables
sure w (Remove number) = (after w (Remove number)).tables
sure w (Append text version) = w.tables
sure w (Start number bytes version) = w.tables

-- where the operation was cut: the manifest and the version of before, or those of after
abbrev pub either : World → Operation → Known
either w o = record {
  may_miss = false;
  manifests = (after w o).manifest ∷ w.manifest ∷ [];
  versions = (after w o).version ∷ w.version ∷ [];
  tables = sure w o;
}

-- once a manifest was started, over whatever was known before
abbrev pub started : Known → (number : ℕ) (bytes : List ℕ) → Version → World
started known number bytes version =
    record { manifest = number; bytes = bytes; version = version; tables = known.tables }

-- where that was cut
abbrev pub starting : Known → ℕ → Version → Known
starting known number version =
    record known { manifests = number ∷ known.manifests; versions = version ∷ known.versions }
