-- Readers outside the lock, and what each step of theirs leaves (this project's rule).
use Rattle.std.specs.Prelude.{◌≡◌, ℕ, ◌^◌, ◌<◌, ◌≤◌, List, length, None, Some}
use Rattle.atomic_table.specs.Seated.{TableId}
use Rattle.lsm_codec.specs.Entries.{Entry}
use Rattle.lsm_shelf.specs.Told.{Place, Told, fork_at, fresh}
use Rattle.lsm_version.specs.Versions.{Levels, numbers_in}
use Rattle.lsm_pins.specs.Known.{Known}
use Rattle.lsm_pins.specs.View.{learnt_view, pinned_view, told_view, unpinned_view}
use Rattle.lsm_slots.specs.Slots.{Epoch, HasEpoch, current_id, current_slot}
use Rattle.lsm_state.specs.Held.{Held}
use Rattle.lsm_store.specs.Promised.{AnswersAll, IsPromisedAt, snapshot_sequences}
use Rattle.lsm_store.specs.declared.begin_fault.BeginFault.{BeginFault}
use Rattle.lsm_store.specs.declared.begin_fault.BeginFault.TheVariants.{Moved, PinsSpent}

-- What contracts see of a reader and of a view: the version that it has learnt and its id, its end
-- of the board, and what the shelf told by which it reads; all that had come in when it learnt the
-- version, the latest first, and the sequences of the snapshots that were live then.
pub record Learnt : Type 0 where
  pub id : ℕ
  pub version : Levels
  pub pinner : Known
  pub told : Told
  pub history : List Entry
  pub snapshots : List ℕ

-- a read at this sequence is promised
abbrev pub IsPromised : Learnt → ℕ → Type 0
IsPromised r seq = IsPromisedAt r.version r.snapshots seq

-- each promised read of its version gives what it gives over all that had come in
abbrev pub KnowsAll : Learnt → Type 0
KnowsAll r = AnswersAll r.version r.snapshots r.history

-- it holds no pin
abbrev pub IsIdle : Learnt → Type 0
IsIdle r = r.pinner.knows.held ≡ None

-- the version that it has learnt is none after the last one that it saw on the board
abbrev pub HasSeen : Learnt → Type 0
HasSeen r = r.id ≤ r.pinner.knows.id

-- it holds a pin of the version that it has learnt
abbrev pub IsPinning : Learnt → Type 0
IsPinning v = (slot : ℕ) × (v.pinner.knows.held ≡ Some (v.id, slot))

-- ---- steps

-- its pin found this id and slot
abbrev pub pinned : ℕ → ℕ → Learnt → Learnt
pinned id slot r = record r {
  pinner = record r.pinner
      { knows = pinned_view r.pinner.knows id slot };
}

-- its pin was given back
abbrev pub unpinned : Learnt → Learnt
unpinned r = record r { pinner = record r.pinner { knows = unpinned_view r.pinner.knows } }

-- it was told what the publisher knows
abbrev pub informed : Held → Learnt → Learnt
informed h r = record r {
  pinner = record r.pinner
      { knows = told_view r.pinner.knows h.slots.board.knows };
}

-- an end of the board that learns the current id and slot of the state, and is told what the
-- publisher knows
abbrev pub learning : Held → Known → Known
learning h p = record p {
  knows = learnt_view (told_view p.knows h.slots.board.knows)
      (current_id h.slots) (current_slot h.slots);
}

-- it learnt the current version of the state, all that has come in, and which snapshots are live
abbrev pub refreshed : Held → Learnt → Learnt
refreshed h r = record r {
  id = current_id h.slots;
  version = h.slots.version;
  pinner = learning h r.pinner;
  history = h.history;
  snapshots = snapshot_sequences h;
}

-- One step pinned the version that was learnt.
abbrev pub IsBegun : Learnt → Learnt → Type 0
IsBegun r v = (slot : ℕ) × (v ≡ pinned r.id slot r)

-- `Moved`: one step found a later version than the one learnt, and none before one that was seen;
-- its pin was given back. `PinsSpent`: all pins of the id seen last were made, and no step was.
abbrev pub IsRefused : Learnt → Learnt → BeginFault → Type 0
IsRefused r back (Moved id) = (r.id < id) × (r.pinner.knows.id ≤ id)
    × ((slot : ℕ) × (back ≡ unpinned (pinned id slot r)))
IsRefused r back PinsSpent = (r.pinner.knows.count ≡ 2 ^ 24) × (back ≡ r)

-- These are the numbers of the tables of the view's version; and a version of just these tables is
-- the one that the state has in the slot that the view's pin holds, under the view's id.
pub record IsMet (v : Learnt) (h : Held) (numbers : List ℕ) : Type 0 where
  pub slot : ℕ
  pub epoch : Epoch
  pub held : v.pinner.knows.held ≡ Some (v.id, slot)
  pub there : HasEpoch h.slots slot epoch
  pub its : epoch.id ≡ v.id
  pub tables : numbers_in epoch.version ≡ numbers_in v.version
  pub numbers_are : numbers ≡ numbers_in v.version

-- ---- a new store

-- there are no more pinners than readers in the options
abbrev pub SeatsPinners : Held → Type 0
SeatsPinners h = length h.pinners ≤ h.options.readers

-- what a reader has besides its end of the board
pub record KnownVersion : Type 0 where
  pub id : ℕ
  pub version : Levels
  pub told : Told
  pub history : List Entry
  pub snapshots : List ℕ

-- the current version is known, with all that has come in, and nothing was told by the shelf yet
abbrev pub known_at : Held → Place → KnownVersion
known_at h place = record {
  id = current_id h.slots;
  version = h.slots.version;
  told = fresh place;
  history = h.history;
  snapshots = snapshot_sequences h;
}

-- the same, with a fork of this number
abbrev pub known_by : Held → Place → ℕ → KnownVersion
known_by h place number = record (known_at h place) { told = fork_at place number }

-- so by a fork of any number
abbrev pub IsKnownBy : Held → Place → KnownVersion → Type 0
IsKnownBy h place d = (number : ℕ) × (d ≡ known_by h place number)

-- the same, where another version was known before
abbrev pub learning_all : Held → KnownVersion → KnownVersion
learning_all h d = record (known_at h d.told.place) { told = d.told }

-- the reader with this end of the board: it has learnt the current version and all that has come
-- in, and nothing was told by its shelf yet
abbrev pub seated : Held → Place → Known → Learnt
seated h place p = record {
  id = current_id h.slots;
  version = h.slots.version;
  pinner = learning h p;
  told = fresh place;
  history = h.history;
  snapshots = snapshot_sequences h;
}

-- a reader, but for the number of its fork
abbrev pub unnumbered : Learnt → Learnt
unnumbered r = record r { told = record r.told { forks = 0 } }

-- an end of this board that holds no pin
abbrev pub IsFreeEnd : TableId → Known → Type 0
IsFreeEnd board p = (p.board ≡ board) × (p.knows.held ≡ None)
