-- What is known of a disk: between two operations, and where one was cut or refused.
use Rattle.std.specs.Prelude.{◌≡◌, ◌⊎◌, ℕ, ◌^◌, ◌<◌, ◌≤◌, Bool, true, false, List, [], ◌∷◌, length}
use Rattle.std.specs.Prelude.{take, codes, Option, Some, None}
use Rattle.lsm_codec.specs.Lists.{Has}
use Rattle.lsm_storage.specs.FileNames.{table_name, manifest_name, current_text}
use Rattle.lsm_crash.specs.Disk.{Disk}
use Rattle.lsm_crash.specs.Crash.{Found, May}
use Rattle.lsm_crash.specs.Versions.{AreThere, ComesTo, Tables, Version}

abbrev pub current_name : List ℕ
current_name = codes "CURRENT"

-- ---- names and files

-- the names now are among those that a crash may leave, each name has one file, and the files are
-- those that were made
pub record IsSound (d : Disk) : Type 0 where
  pub now : Has d.past d.names
  pub below : (p : List ℕ) (i : ℕ) → d.names p ≡ Some i → i < d.next
  pub one : (p q : List ℕ) (i : ℕ) → d.names p ≡ Some i → d.names q ≡ Some i → p ≡ q

-- P holds of this file: its number, its bytes, and how many of them are durable. No other name has
-- it now
abbrev pub IsFile : Disk → List ℕ → (ℕ → List ℕ → ℕ → Type 0) → Option ℕ → Type 0
IsFile d q P o = (i : ℕ) × (o ≡ Some i) × (i < d.next)
    × ((p : List ℕ) → d.names p ≡ Some i → p ≡ q) × P i (d.bytes i) (d.kept i)

-- Whatever a crash leaves of the name: it has a file of which P holds, or none, where that may be.
pub record Holds (may_miss : Bool) (d : Disk) (q : List ℕ) (P : ℕ → List ℕ → ℕ
    → Type 0) : Type 0 where
  pub each : (o : Option ℕ) → May d q o → ((may_miss ≡ true) × (o ≡ None)) ⊎ IsFile d q P o

-- this file, with these bytes, all of them durable
abbrev pub Is : ℕ → List ℕ → ℕ → List ℕ → ℕ → Type 0
Is one bytes i b k = (i ≡ one) × (b ≡ bytes) × (k ≡ length bytes)

-- the name has one file, now and after any crash, with just these bytes, all of them durable
abbrev pub Stands : Disk → List ℕ → List ℕ → Type 0
Stands d q bytes = (one : ℕ) × Holds false d q (Is one bytes)

abbrev pub AllStand : Disk → Tables → Type 0
AllStand d tables = (number : ℕ) (image : List ℕ) → tables number ≡ Some image → (number < 2 ^ 64)
    × Stands d (table_name number) image

-- ---- between two operations

-- what the database counts on: its manifest's number and bytes, the version, and the tables
pub record World : Type 0 where
  pub manifest : ℕ
  pub bytes : List ℕ
  pub version : Version
  pub tables : Tables

-- `CURRENT`, its manifest and the tables are durable; the manifest comes to the version, and each
-- file of the version is among the tables.
pub record IsSettled (d : Disk) (w : World) : Type 0 where
  pub sound : IsSound d
  pub small : w.manifest < 2 ^ 64
  pub current : Stands d current_name (current_text w.manifest)
  pub its : Stands d (manifest_name w.manifest) w.bytes
  pub comes : ComesTo w.bytes w.version
  pub tables : AllStand d w.tables
  pub there : AreThere w.version w.tables

-- ---- where an operation was cut or refused

-- what may be: that `CURRENT` is missing, which manifests it names, to which versions they come;
-- and the tables that are counted on
pub record Known : Type 0 where
  pub may_miss : Bool
  pub manifests : List ℕ
  pub versions : List Version
  pub tables : Tables

-- cut anywhere behind its durable bytes, the manifest comes to one of the versions
abbrev pub Tells : List Version → ℕ → List ℕ → ℕ → Type 0
Tells versions i b k = (m : ℕ) → k ≤ m → (v : Version) × Has versions v × ComesTo (take m b) v

-- a durable text that names one of the manifests, which tells one of the versions
abbrev pub NamesOne : Known → Disk → ℕ → List ℕ → ℕ → Type 0
NamesOne known d i b k = (k ≡ length b) × (number : ℕ) × Has known.manifests number
    × (b ≡ current_text number) × Holds false d (manifest_name number) (Tells known.versions)

-- Each `CURRENT` that a crash may leave names one of the manifests, or it may be missing; each of
-- the manifests that it names comes to one of the versions, wherever it is cut; the tables are
-- durable, and each file of each version is among them.
pub record IsHeld (d : Disk) (known : Known) : Type 0 where
  pub sound : IsSound d
  pub small : (m : ℕ) → Has known.manifests m → m < 2 ^ 64
  pub current : Holds known.may_miss d current_name (NamesOne known d)
  pub tables : AllStand d known.tables
  pub there : (v : Version) → Has known.versions v → AreThere v known.tables

-- where nothing was cut
abbrev pub known_of : World → Known
known_of w = record {
  may_miss = false;
  manifests = w.manifest ∷ [];
  versions = w.version
      ∷ [];
  tables = w.tables;
}

-- of a folder without `CURRENT`, whatever else is in it
abbrev pub nothing : Known
nothing = record { may_miss = true; manifests = []; versions = []; tables = λ number. None }

-- `CURRENT` is not there, and no crash brings one
pub record IsVacant (d : Disk) : Type 0 where
  pub sound : IsSound d
  pub none : (o : Option ℕ) → May d current_name o → o ≡ None

-- ---- what is found after a crash

-- `CURRENT` names one of the manifests, whose whole records come to one of the versions, and each
-- table is there, whole, those of the version among them.
pub record Recovers (known : Known) (found : Found) : Type 0 where
  pub manifest : ℕ
  pub bytes : List ℕ
  pub version : Version
  pub one : Has known.manifests manifest
  pub small : manifest < 2 ^ 64
  pub good : Has known.versions version
  pub current : found current_name ≡ Some (current_text manifest)
  pub its : found (manifest_name manifest) ≡ Some bytes
  pub comes : ComesTo bytes version
  pub tables : (number : ℕ) (image : List ℕ) → known.tables number ≡ Some image
      → (number < 2 ^ 64) × (found (table_name number) ≡ Some image)
  pub there : AreThere version known.tables

-- `CURRENT` names one of the manifests, and its first bytes, so many, come to one of the versions;
-- each table is there, whole, those of the version among them.
pub record KeepsFront (known : Known) (found : Found) : Type 0 where
  pub manifest : ℕ
  pub bytes : List ℕ
  pub front : ℕ
  pub version : Version
  pub one : Has known.manifests manifest
  pub good : Has known.versions version
  pub current : found current_name ≡ Some (current_text manifest)
  pub its : found (manifest_name manifest) ≡ Some bytes
  pub short : front ≤ length bytes
  pub comes : ComesTo (take front bytes) version
  pub tables : (number : ℕ) (image : List ℕ) → known.tables number ≡ Some image
      → found (table_name number) ≡ Some image
  pub there : AreThere version known.tables

-- the world that is read from a folder
abbrev pub world_of : (known : Known) (found : Found) → Recovers known found → World
world_of known found r = record
    { manifest = r.manifest; bytes = r.bytes; version = r.version; tables = known.tables }
