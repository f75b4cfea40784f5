-- What contracts see of a state, and its law (this project's rule).
use Rattle.std.specs.Prelude.{◌≡◌, ℕ, suc, ◌<◌, Bool, false, None, List}
use Rattle.atomic_table.specs.Seated.{TableId}
use Rattle.lsm_codec.specs.Entries.{Entry}
use Rattle.lsm_codec.specs.Lists.{Has}
use Rattle.lsm_pins.specs.Known.{Known}
use Rattle.lsm_table.specs.Registry.{Table}
use Rattle.lsm_version.specs.Versions.{Levels, files, level_in}
use Rattle.lsm_model.specs.Law.{Law}
use Rattle.lsm_model.specs.Plain.{Plain}
use Rattle.lsm_model.specs.Runs.{Agrees}
use Rattle.lsm_slots.specs.Slots.{Slotted, numbers_held}
use Rattle.lsm_slots.specs.Snapshots.{Taken}
use Rattle.lsm_merge.specs.Work.{Work}
use Rattle.lsm_live.specs.Booked.{Booked, lives_of}
use Rattle.lsm_journal.specs.HeldManifest.{HeldManifest}
use Rattle.lsm_journal.specs.Recorded.{IsRecorded}
use Rattle.lsm_state.specs.Options.{Fits}
use Rattle.lsm_state.specs.declared.options.Options.{Options}

pub record Held : Type 0 where
  pub options : Options
  pub slots : Slotted
  pub snapshots : Taken
  -- the next file number and the next ticket
  pub next : ℕ
  pub next_ticket : ℕ
  pub live : List Booked
  pub journal : HeldManifest
  -- no manifest may be written any more
  pub halted : Bool
  -- the pinners that were not taken yet
  pub pinners : List Known
  -- all that ever came in, the latest batch first, and behind it what the version held that was
  -- opened
  pub history : List Entry

-- a state as the plain machine has it
abbrev pub plain : Held → Plain
plain h = record {
  files = files h.slots.version;
  last = h.slots.version.last;
  next = h.next;
  next_id = h.snapshots.next;
  next_ticket = h.next_ticket;
  snapshots = h.snapshots.taken;
  live = lives_of h.live;
}

-- The manifest held records the current version; after its records stands nothing, unless the state
-- is halted.
abbrev pub IsJournaled : Held → Type 0
IsJournaled h = (rest : ℕ) × IsRecorded rest h.journal h.slots.version h.next
    × (h.halted ≡ false → rest ≡ 0)

-- the version has the inputs of the job, as tables, at its level and the next
pub record HasInputs (v : Levels) (w : Work) : Type 0 where
  pub upper : (t : Table) → Has w.upper t → Has (level_in v.tables w.level) t
  pub lower : (t : Table) → Has w.lower t → Has (level_in v.tables (suc w.level)) t

-- The law of a state: it keeps the machine's, its manifest records its version, each number of a
-- version in a slot is below the next, the pinners not yet taken are at the board and hold nothing,
-- and the inputs of live jobs are tables of the version. Over an honest shelf every read that is
-- promised, at the last sequence or a live snapshot's, gives what it gives over the whole history.
pub record IsLawfulState (Honest : Type 0) (board : TableId) (h : Held) : Type 0 where
  pub law : Law Honest (plain h)
  pub journaled : IsJournaled h
  pub below : (n : ℕ) → Has (numbers_held h.slots.epochs) n → n < h.next
  pub pinners : (p : Known) → Has h.pinners p → (p.board ≡ board) × (p.knows.held ≡ None)
  pub fits : Fits h.options
  pub inputs : (b : Booked) → Has h.live b → HasInputs h.slots.version b.work
  pub agrees : Honest → Agrees (plain h) h.history
