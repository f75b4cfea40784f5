-- Rounds of workers, one after another.
use Rattle.std.proofs.Common.{◌≡◌, ℕ, suc, List, All, length, subst, inr}
use Rattle.std.proofs.Common.{true}
use Rattle.std.specs.Prelude.{◌⊎◌}
use Rattle.lsm_shelf.specs.Asked.{Asked}
use Rattle.lsm_shelf.specs.Place.{Place}
use Rattle.lsm_shelf.specs.Told.{ForkedTimes, Told, forks_behind}
use Rattle.lsm_shelf.specs.declared.shelf_fault.ShelfFault.{ShelfFault}
use Rattle.lsm_state.specs.Collecting.{SameCounts}
use Rattle.lsm_state.specs.Held.{Held}
use Rattle.lsm_store.specs.Ends.{IsFaultless, IsFirstFault}
use Rattle.lsm_store.specs.Workers.{IsWorkersEnd}
use Rattle.lsm_store.specs.Working.{HaveEnded, given_each}
use Rattle.lsm_store.specs.declared.picks.Picks.{Picks}
use Rattle.lsm_store.specs.declared.worker_end.WorkerEnd.{WorkerEnd}
use Rattle.lsm_store.specs.declared.worker_fault.WorkerFault.{WorkerFault}
use Rattle.lsm_opening.specs.declared.faults.compact_fault.CompactFault.{CompactFault}
use Rattle.lsm_opening.specs.declared.faults.compact_fault.CompactFault.TheVariants.{Worker}
use Rattle.lsm_requests.specs.declared.compact_options.CompactOptions.{CompactOptions}
use Rattle.lsm_cmd_compact.specs.Compacting.{AreRounds, EndsRounds, IsAimed}
use Rattle.lsm_cmd_compact.specs.Compacting.{IsFaultlessRound, IsFaultyRound}
use Rattle.lsm_cmd_compact.specs.Compacting.{IsLeftOver, IsRound, IsUnmanned, StopsBehindRounds}
use Rattle.lsm_cmd_compact.specs.Compacting.{StopsWorking, Works}

module _ (Refused : Asked → ShelfFault → Type 0) (Honest : Type 0) (keeps : Held → Type 0) (place : Place) (workers : ℕ) (picks : Picks) where
  -- workers ended over new forks
  pub round_of : (was is : Told) (shelves : List Told) (ends : List WorkerEnd)
      → ForkedTimes workers was is → SameCounts was is → shelves
      ≡ forks_behind place was.forks workers
      → length ends ≡ workers → All (λ (e : WorkerEnd). IsWorkersEnd Honest e) ends
      → HaveEnded Honest Refused keeps (given_each picks true shelves) ends
      → IsRound Refused Honest keeps place workers picks ends was is
  round_of was is shelves ends forked counts new count each ended = record {
    forked = forked;
    counts = counts;
    ends_are = record {
      count = count;
      each = each;
      ended = subst (λ (ts : List Told). HaveEnded Honest Refused keeps (given_each picks true ts)
          ends) new ended;
    };
  }

  -- none with a fault
  pub faultless_round : (was is : Told) (ends judged : List WorkerEnd) → judged ≡ ends
      → IsRound Refused Honest keeps place workers picks ends was is → All IsFaultless judged
      → IsFaultlessRound Refused Honest keeps place workers picks was is
  faultless_round was is ends judged same round none =
      (ends, subst (λ (es : List WorkerEnd). All IsFaultless es) same none, round)

  -- or one with this fault
  pub faulty_round : (was is : Told) (ends judged : List WorkerEnd) (e : CompactFault)
      (fault : WorkerFault)
      → judged ≡ ends → IsRound Refused Honest keeps place workers picks ends was is
      → e ≡ Worker fault → IsFirstFault fault judged
      → IsFaultyRound Refused Honest keeps place workers picks e was is
  faulty_round was is ends judged e fault same round its first =
      (fault, its, (ends, subst (λ (es : List WorkerEnd). IsFirstFault fault es) same first, round))

  -- ---- one more

  pub rounds_more : (a b c : Told)
      → (count : ℕ) × AreRounds Refused Honest keeps place workers picks count a b
      → IsFaultlessRound Refused Honest keeps place workers picks b c → IsLeftOver keeps picks
      → (count : ℕ) × AreRounds Refused Honest keeps place workers picks count a c
  rounds_more a b c some round left = (suc some.0, (b, some.1, round, left))

  -- the last one
  pub rounds_done : (a b c : Told)
      → (count : ℕ) × AreRounds Refused Honest keeps place workers picks count a b
      → IsFaultlessRound Refused Honest keeps place workers picks b c
      → EndsRounds Refused Honest keeps place workers picks a c
  rounds_done a b c some round = (some.0, b, some.1, round)

  pub rounds_stop : (e : CompactFault) (a b c : Told)
      → (count : ℕ) × AreRounds Refused Honest keeps place workers picks count a b
      → IsUnmanned workers e b c ⊎ IsFaultyRound Refused Honest keeps place workers picks e b c
      → StopsBehindRounds Refused Honest keeps place workers picks e a c
  rounds_stop e a b c some stop = (some.0, b, some.1, stop)

module _ (Refused : Asked → ShelfFault → Type 0) (Honest : Type 0) (keeps : Held → Type 0) (place : Place) (found : Held) (options : CompactOptions) where
  -- for what options ask
  pub works : (picks : Picks) (was is : Told) → IsAimed found.slots.version options.range picks
      → EndsRounds Refused Honest keeps place options.workers picks was is
      → Works Refused Honest keeps place found options was is
  works picks was is aimed rounds = (picks, aimed, rounds)

  pub stops_working : (picks : Picks) (e : CompactFault) (was is : Told)
      → IsAimed found.slots.version options.range picks
      → StopsBehindRounds Refused Honest keeps place options.workers picks e was is
      → StopsWorking Refused Honest keeps place found options e was is
  stops_working picks e was is aimed stops = inr (picks, aimed, stops)
