-- What a state is made with, and a new one (this project's rule; the first manifest is LevelDB's
-- `DBImpl::NewDB`).
use Rattle.std.specs.Prelude.{◌≡◌, ℕ, ◌+◌, false, List, []}
use Rattle.std.specs.List.{All}
use Rattle.atomic_table.specs.Seated.{TableId}
use Rattle.lsm_history.specs.declared.new_history.NewHistory.{NewHistory}
use Rattle.lsm_pins.specs.Known.{Known}
use Rattle.lsm_pins.specs.Made.{IsNewPinner}
use Rattle.lsm_pins.specs.View.{after_making}
use Rattle.lsm_version.specs.Versions.{no_levels}
use Rattle.lsm_slots.specs.Slots.{first_slots}
use Rattle.lsm_journal.specs.Writing.{created_under}
use Rattle.lsm_state.specs.Held.{Held}
use Rattle.lsm_state.specs.declared.options.Options.{Options}
use Rattle.lsm_state.specs.Options.{limit_of}

-- The ends of a board that was just made, with the slots and the readers of the options.
pub record IsNewBoard (board : TableId) (o : Options) (publisher : Known) (pinners : List Known)
    : Type 0 where
  pub id : ℕ
  pub here : publisher.board ≡ board
  pub made : publisher.knows ≡ after_making o.versions id o.readers
  pub readers : All (IsNewPinner board o.versions id) pinners

-- A history that was just made, under the name that stands for it.
abbrev pub IsNewHistory : TableId → NewHistory → Type 0
IsNewHistory id history = history.table.shared.table_id ≡ id

-- no table, no snapshot, no job, and nothing came in; the manifest has this number, and the next
-- number is one more
abbrev pub created_state_under : ℕ → Options → Known → List Known → Held
created_state_under number o publisher pinners = record {
  options = o;
  slots = first_slots publisher o.versions no_levels;
  snapshots = record { taken = []; next = 1 };
  next = number + 1;
  next_ticket = 1;
  live = [];
  journal = created_under number (limit_of o);
  halted = false;
  pinners = pinners;
  history = [];
}

-- the same with manifest 1, so 2 is the next number
abbrev pub created_state : Options → Known → List Known → Held
created_state o publisher pinners = created_state_under 1 o publisher pinners
