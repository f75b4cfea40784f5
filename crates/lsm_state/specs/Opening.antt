-- What a state is when its database is opened, and why it is not (that a new manifest begins each
-- time is this project's rule).
use Rattle.std.specs.Prelude.{◌≡◌, ℕ, ◌+◌, ◌-◌, ◌^◌, ◌<◌, ◌⊎◌, Bool, List, []}
use Rattle.lsm_codec.specs.Lists.{Has}
use Rattle.lsm_pins.specs.Known.{Known}
use Rattle.lsm_shelf.specs.Asked.{Asked}
use Rattle.lsm_shelf.specs.Refusals.{IsWantOr}
use Rattle.lsm_shelf.specs.declared.shelf_fault.ShelfFault.{ShelfFault}
use Rattle.lsm_shelf.specs.Told.{Told, Becomes, Counted, TakenIs}
use Rattle.lsm_model.specs.Files.{all_entries}
use Rattle.lsm_version.specs.Versions.{IsSound, Levels, files, numbers_in}
use Rattle.lsm_slots.specs.Slots.{first_slots}
use Rattle.lsm_journal.specs.HeldManifest.{HeldManifest}
use Rattle.lsm_journal.specs.Recorded.{IsRecorded}
use Rattle.lsm_journal.specs.Sending.{RollsOver, started_by}
use Rattle.lsm_state.specs.Held.{Held}
use Rattle.lsm_state.specs.declared.options.Options.{Options}
use Rattle.lsm_journal.specs.declared.open_fault.OpenFault.{OpenFault}
use Rattle.lsm_journal.specs.declared.open_fault.OpenFault.TheVariants.{OutOfMemory, Shelf, Recover}
use Rattle.lsm_journal.specs.declared.open_fault.OpenFault.TheVariants.{Check, NumbersSpent}
use Rattle.lsm_journal.specs.declared.manifest_limit.ManifestLimit.{ManifestLimit}
pub use Rattle.lsm_journal.specs.Finding.{IsFound, IsFindRefusal, IsReadOnce}

-- A state of this version and this manifest: the version in the first slot, no snapshot, no job.
-- Its history begins with all that the version holds.
abbrev pub opened_state : Options → Known → List Known → Levels → HeldManifest → ℕ → Bool → Held
opened_state o publisher pinners version journal next halted = record {
  options = o;
  slots = first_slots publisher o.versions version;
  snapshots = record { taken = []; next = 1 };
  next = next;
  next_ticket = 1;
  live = [];
  journal = journal;
  halted = halted;
  pinners = pinners;
  history = all_entries (files version);
}

-- What a state begins with, whether the tables were judged or not: the manifest records the
-- version, with so many bytes at its end that hold no whole record; each number of the version is
-- below the next one; and under `Honest` the version is sound.
pub record IsOpenable (Honest : Type 0) (h : HeldManifest) (v : Levels) (rest next : ℕ)
    : Type 0 where
  pub recorded : IsRecorded rest h v next
  pub below : (n : ℕ) → Has (numbers_in v) n → n < next
  pub fits : next < 2 ^ 64
  pub sound : Honest → IsSound v

-- A new manifest took the place of the one before, here and on the shelf: its one edit spells the
-- version, and it has the number that was next.
pub record IsAnew (v : Levels) (number : ℕ) (before h : HeldManifest) (next : ℕ) (was is : Told)
    : Type 0 where
  pub rolls : RollsOver v number before h was is
  pub after : next ≡ number + 1
  pub fits : next < 2 ^ 64

-- The manifest that was found records the version. The manifest held is a new one, whose one edit
-- spells it, and has the number that was next; both are what the shelf was sent.
pub record IsBegun (Honest : Type 0) (limit : ManifestLimit) (h : HeldManifest) (v : Levels)
    (next : ℕ) (was is : Told) : Type 0 where
  pub before : HeldManifest
  pub rest : ℕ
  pub number : ℕ
  pub read : Told
  pub found : IsFound Honest limit before v rest number was read
  pub rolls : RollsOver v number before h read is
  pub after : next ≡ number + 1
  pub fits : next < 2 ^ 64

-- ---- refusals

-- Why no new manifest takes the place of the one before: the shelf refused it, or memory ran out;
-- or no number is left, and the shelf was asked for nothing.
abbrev pub IsNotAnew : (Asked → ShelfFault → Type 0) → Levels → ℕ → HeldManifest → OpenFault → Told
    → Told → Type 0
IsNotAnew Refused v number before (Shelf e) was is =
    (TakenIs number e × Counted e was is) × IsWantOr (Refused (started_by v number before)) e
    × Becomes was is
IsNotAnew Refused v number before NumbersSpent was is = (number ≡ 2 ^ 64 - 1) × (is ≡ was)
IsNotAnew Refused v number before (Recover e) was is = ⊥
IsNotAnew Refused v number before (Check e) was is = ⊥
IsNotAnew Refused v number before OutOfMemory was is = ⊥

-- The new manifest was refused by the shelf, or for want of memory.
pub record IsUnstarted (Refused : Asked → ShelfFault → Type 0) (Honest : Type 0)
    (limit : ManifestLimit) (e : ShelfFault) (was is : Told) : Type 0 where
  pub held : HeldManifest
  pub version : Levels
  pub rest : ℕ
  pub number : ℕ
  pub read : Told
  pub found : IsFound Honest limit held version rest number was read
  pub cause : TakenIs number e × Counted e read is
  pub asked : IsWantOr (Refused (started_by version number held)) e
  pub told : Becomes read is

-- All was read, and no number is left for a new manifest.
pub record IsNumberless (Honest : Type 0) (limit : ManifestLimit) (was is : Told) : Type 0 where
  pub held : HeldManifest
  pub version : Levels
  pub rest : ℕ
  pub found : IsFound Honest limit held version rest (2 ^ 64 - 1) was is

-- Why no new manifest begins where all was read.
abbrev pub IsStartRefusal : (Asked → ShelfFault → Type 0) → Type 0 → ManifestLimit → OpenFault
    → Told → Told → Type 0
IsStartRefusal Refused Honest limit (Shelf e) was is = IsUnstarted Refused Honest limit e was is
IsStartRefusal Refused Honest limit NumbersSpent was is = IsNumberless Honest limit was is
IsStartRefusal Refused Honest limit (Recover e) was is = ⊥
IsStartRefusal Refused Honest limit (Check e) was is = ⊥
IsStartRefusal Refused Honest limit OutOfMemory was is = ⊥

-- Why no database is opened: it could not be read; or no new manifest could begin.
abbrev pub IsOpenRefusal : (ℕ → List ℕ → Type 0) → (Asked → ShelfFault → Type 0) → Type 0
    → ManifestLimit → OpenFault → Told → Told → Type 0
IsOpenRefusal Stored Refused Honest limit e was is =
    IsFindRefusal Stored Refused Honest e was is ⊎ IsStartRefusal Refused Honest limit e was is
