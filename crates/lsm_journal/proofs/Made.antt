-- Which calls of a journal changed what lies on the shelf, as the shelf's value noted them.
use Rattle.std.proofs.Common.{◌≡◌, Bool, true, false, ℕ, ◌+◌, List, ◌∷◌, inl, inr}
use Rattle.std.specs.Prelude.{MatchBool, if◌then◌else◌}
use Rattle.lsm_shelf.specs.Asked.{Asked, AppendManifest, StartManifest}
use Rattle.lsm_shelf.specs.Told.{Told, Becomes, sending}
use Rattle.lsm_shelf.specs.declared.shelf_fault.ShelfFault.{ShelfFault}
use Rattle.lsm_shelf.specs.declared.shelf_fault.ShelfFault.TheVariants as shelf
use Rattle.lsm_version.specs.Versions.{Levels}
use Rattle.lsm_journal.specs.HeldManifest.{HeldManifest, is_at_limit}
use Rattle.lsm_journal.specs.declared.manifest_limit.ManifestLimit.{ManifestLimit}
use Rattle.lsm_journal.specs.Difference.{Difference}
use Rattle.lsm_journal.specs.Finding.{IsFindRefusal, IsFound}
use Rattle.lsm_journal.specs.Recovering.{IsRecoverRefusal}
use Rattle.lsm_journal.specs.Sending.{Grows, IsCreateRefusalUnder, RollsOver, Sends, asked_by, started_by}
use Rattle.lsm_journal.specs.Writing.{change_edit, record_of}
use Rattle.lsm_journal.specs.declared.open_fault.OpenFault.{OpenFault}
use Rattle.lsm_journal.specs.declared.open_fault.OpenFault.TheVariants.{OutOfMemory, Shelf, Recover, Check, NumbersSpent}
use Rattle.lsm_journal.specs.declared.recover_fault.RecoverFault.{RecoverFault}
use Rattle.lsm_journal.specs.declared.recover_fault.RecoverFault.TheVariants as recover

-- a new database: its manifest was started
pub created_made : (number : ℕ) (bytes : List ℕ) (was is : Told) → Becomes (sending number bytes was) is → is.made ≡ StartManifest number bytes ∷ was.made
created_made number bytes was is sent = sent.made

pub create_refused_made : (number : ℕ) (e : ShelfFault) (was is : Told) → IsCreateRefusalUnder number e was is → is.made ≡ was.made
create_refused_made number shelf.OutOfMemory was is r = r.made
create_refused_made number shelf.Device was is r = r.0.made
create_refused_made number shelf.Missing was is r = absurd r
create_refused_made number (shelf.Taken n) was is r = elim r [ inl read ↦ read.1.made | inr taken ↦ taken.1.made ]

-- a database that is there: it was read alone
pub found_made : (honest : Type 0) (limit : ManifestLimit) (h : HeldManifest) (v : Levels) (rest next : ℕ) (was is : Told) → IsFound honest limit h v rest next was is → is.made ≡ was.made
found_made honest limit h v rest next was is f = f.told.made

recover_refused_made : (Refused : Asked → ShelfFault → Type 0) (e : RecoverFault) (was is : Told) → IsRecoverRefusal Refused e was is → is.made ≡ was.made
recover_refused_made Refused (recover.Shelf e) was is r = r.0.made
recover_refused_made Refused (recover.Log e) was is r = r.1.1.made
recover_refused_made Refused (recover.Edit e) was is r = r.1.1.made
recover_refused_made Refused (recover.Replay e) was is r = r.1.1.made

pub find_refused_made : (Stored : ℕ → List ℕ → Type 0) (Refused : Asked → ShelfFault → Type 0) (honest : Type 0) (e : OpenFault) (was is : Told) → IsFindRefusal Stored Refused honest e was is
    → is.made ≡ was.made
find_refused_made Stored Refused honest (Recover e) was is r = recover_refused_made Refused e was is r
find_refused_made Stored Refused honest (Check e) was is r = r.told.made
find_refused_made Stored Refused honest (Shelf e) was is r = r.told.made
find_refused_made Stored Refused honest NumbersSpent was is r = r.told.made
find_refused_made Stored Refused honest OutOfMemory was is r = elim r.told [ inl read ↦ read.made | inr listed ↦ listed.1.made ]

-- a change: what it asks of the shelf was made
pub sent_made : (d : Difference) (w : Levels) (next after : ℕ) (old new : HeldManifest) (was is : Told) → Sends d w next after old new was is → is.made ≡ asked_by d w next old ∷ was.made
sent_made d w next after old new was is s = go (is_at_limit old) s
  where
    go : (b : Bool) → MatchBool b ((after ≡ next + 1) × RollsOver w next old new was is) ((after ≡ next) × Grows (change_edit old d next) old new was is)
        → is.made ≡ (if b then started_by w next old else AppendManifest (record_of old.bytes (change_edit old d next))) ∷ was.made
    go true x = x.1.sent.made
    go false x = x.1.sent.made
