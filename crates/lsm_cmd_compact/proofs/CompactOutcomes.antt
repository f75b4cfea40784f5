-- What a compaction answers, by what is done.
use Rattle.std.proofs.Common.{◌≡◌, ◌≢◌, ℕ, inl, inr, List, Option, IfErr, OnErr, OnOk, refl, sym}
use Rattle.std.proofs.Common.{subst, ap, ◌∙◌}
use Rattle.std.specs.Prelude.{Some, None, Result, Ok, Err}
use Rattle.std.specs.Io.KnownBytes.{Keeps}
use Rattle.atomic_table.specs.Seated.{TableId}
use Rattle.lsm_shelf.specs.Asked.{Asked}
use Rattle.lsm_shelf.specs.declared.shelf_fault.ShelfFault.{ShelfFault}
use Rattle.lsm_shelf.specs.Told.{Becomes, Told, finding}
use Rattle.lsm_codec.specs.Entries.{answer}
use Rattle.lsm_model.specs.Files.{all_entries}
use Rattle.lsm_version.specs.Versions.{files}
use Rattle.lsm_journal.specs.HeldManifest.{HeldManifest}
use Rattle.lsm_state.specs.Held.{Held}
use Rattle.lsm_store.specs.Compacting.{IsLeftByWorkers}
use Rattle.lsm_opening.specs.Compactions.{IsSwept}
use Rattle.lsm_opening.specs.declared.faults.writer_fault.WriterFault.TheVariants.{Write as WriteFault}
use Rattle.lsm_requests.specs.declared.compact_options.CompactOptions.{CompactOptions}
use Rattle.lsm_requests.specs.declared.compact_range.CompactRange.{CompactRange}
use Rattle.lsm_store.specs.declared.picks.Picks.{Picks}
use Rattle.lsm_store.specs.declared.picks.Picks.TheVariants.{Choice, Gathering, Joining}
use Rattle.lsm_store.specs.declared.picks.Picks.TheVariants.{Manual}
use Rattle.lsm_cmd_compact.specs.Compacting.{IsAimed, IsClearedBy, Clears, Compacts, IsCompactFault}
use Rattle.lsm_cmd_compact.specs.Compacting.{IsNamed, IsOpened, IsNotCompacted, LeavesAll}
use Rattle.lsm_cmd_compact.specs.Compacting.{StopsCompacting, StopsSweeping, StopsWorking, Works}
use Rattle.lsm_cmd_compact.specs.Compacting.{installed_between}
use Rattle.lsm_opening.specs.declared.faults.compact_fault.CompactFault.{CompactFault}
use Rattle.lsm_opening.specs.declared.faults.compact_fault.CompactFault.TheVariants.{Writer}

pub is_refused : {T : Type 0} (r : Result T CompactFault) (status : ℕ) (Stored : ℕ → List ℕ → Type 0) (Refused : Asked → ShelfFault → Type 0) (Honest : Type 0) (options : CompactOptions)
    (was is : Told) (old new : Option (List ℕ)) → OnOk r (status ≡ 0) → OnErr r (status ≡ 1)
    → IfErr r (λ e. IsCompactFault Stored Refused Honest options e was is) → IfErr r (λ e. e ≢ Writer WriteFault → Keeps old new) → status ≢ 0
    → (status ≡ 1) × ((fault : CompactFault) × IsNotCompacted Stored Refused Honest options fault was is old new)
is_refused (Ok x) status Stored Refused Honest options was is old new ok err says left other = absurd (other ok)
is_refused (Err e) status Stored Refused Honest options was is old new ok err says left other = (err, (e, record { says = says; left = left }))

-- ---- after the opening

-- what workers left is all of it, and each user key shows what it showed
pub leaves : (Honest : Type 0) (found left : Held) → IsLeftByWorkers Honest found left
    → LeavesAll Honest found left
leaves Honest found left l = record {
  by_workers = l;
  shows = λ h k. ap (λ (q : ℕ). answer (all_entries (files left.slots.version)) k q) l.as_found.last ∙ l.as_found.answers h k found.slots.version.last (inl refl);
}

-- workers were not done
pub unfinished : (Stored : ℕ → List ℕ → Type 0) (Refused : Asked → ShelfFault → Type 0) (Honest : Type 0) (board : TableId) (found : Held) (options : CompactOptions) (e : CompactFault) (was begun is : Told)
    → IsOpened Honest board found was begun
    → StopsWorking Refused Honest (IsLeftByWorkers Honest found) was.place found options e begun is
    → StopsCompacting Stored Refused Honest options e was is
unfinished Stored Refused Honest board found options e was begun is opened stopped = inr (inl record { board = board; found = found; begun = begun; opened = opened; stopped = stopped })

-- nothing, or not all, was removed
pub unswept : (Stored : ℕ → List ℕ → Type 0) (Refused : Asked → ShelfFault → Type 0) (Honest : Type 0) (board : TableId) (found left : Held) (options : CompactOptions)
    (e : CompactFault) (was begun ended is : Told) → IsOpened Honest board found was begun → Works Refused Honest (IsLeftByWorkers Honest found) was.place found options begun ended
    → Clears (IsLeftByWorkers Honest found) found options.range → IsLeftByWorkers Honest found left
    → StopsSweeping Refused Honest board left e ended is → StopsCompacting Stored Refused Honest
    options e was is
unswept Stored Refused Honest board found left options e was begun ended is opened worked cleared by
    stops = inr (inr (inl record {
      board = board;
      found = found;
      left = left;
      begun = begun;
      opened = opened;
      ended = ended;
      worked = worked;
      cleared = cleared;
      leaves = leaves Honest found left by;
      stops = stops;
    }))

-- all was done
pub compacts : (Refused : Asked → ShelfFault → Type 0) (Honest : Type 0) (board : TableId) (found left : Held) (options : CompactOptions) (installed : ℕ) (was begun ended read is : Told)
    → IsOpened Honest board found was begun
    → Works Refused Honest (IsLeftByWorkers Honest found) was.place found options begun ended
    → Clears (IsLeftByWorkers Honest found) found options.range → IsLeftByWorkers Honest found left
    → installed ≡ installed_between found left → IsNamed left ended read
    → IsSwept Honest board left read is → Compacts Refused Honest options installed was is
compacts Refused Honest board found left options installed was begun ended read is opened worked cleared by count named swept = record {
  board = board;
  found = found;
  left = left;
  begun = begun;
  opened = opened;
  ended = ended;
  worked = worked;
  cleared = cleared;
  leaves = leaves Honest found left by;
  count = count;
  read = read;
  named = named;
  swept = swept;
}

-- the manifest of a state of which no more changed than that slots were looked at
pub named_still : (was is : Held) (t u : Told) → is ≡ record was { slots = is.slots }
    → IsNamed was t u → IsNamed is t u
named_still was is t u same named =
    record {
      told = subst (λ (j : HeldManifest). Becomes (finding j.number j.bytes t) u) (sym (ap (λ (h : Held). h.journal) same)) named.told;
      counts = named.counts;
    }

-- what was picked for a range is cleared of it
pub clears_by : (keeps : Held → Type 0) (found : Held) (range : Option CompactRange) (picks : Picks)
    → IsAimed found.slots.version range picks → IsClearedBy keeps picks → Clears keeps found range
clears_by keeps found None Choice aimed cleared = tt
clears_by keeps found None Joining aimed cleared = tt
clears_by keeps found None Gathering aimed cleared = tt
clears_by keeps found None (Manual s) aimed cleared = tt
clears_by keeps found (Some r) Choice aimed cleared = absurd aimed
clears_by keeps found (Some r) Joining aimed cleared = absurd aimed
clears_by keeps found (Some r) Gathering aimed cleared = absurd aimed
clears_by keeps found (Some r) (Manual s) aimed cleared = (s, aimed, cleared)
