-- What workers of a compact request did.
use Rattle.std.proofs.Common.{◌≡◌, ℕ, zero, suc, ◌+◌, true, List, [], ◌∷◌, Option, None, Some}
use Rattle.std.proofs.Common.{Result, Ok, Err, IfErr, OnOk, refl, sym, subst, inl, inr}
use Rattle.lsm_codec.specs.Entries.{Entry}
use Rattle.lsm_frames.specs.Requests.{Between}
use Rattle.lsm_shelf.specs.Asked.{Asked}
use Rattle.lsm_shelf.specs.Told.{Becomes, Counted, ForkedTimes, NotNamed, Place, Told, fork_at}
use Rattle.lsm_shelf.specs.declared.shelf_fault.ShelfFault.{ShelfFault}
use Rattle.lsm_state.specs.Held.{Held}
use Rattle.lsm_state.specs.declared.state_fault.StateFault.{StateFault}
use Rattle.lsm_state.specs.declared.state_fault.StateFault.TheVariants as state
use Rattle.lsm_store.specs.Workers.{IsEndOf, IsOfReserving, IsWorkersEnd}
use Rattle.lsm_store.specs.Working.{HaveEnded, given_each}
use Rattle.lsm_store.specs.declared.picks.Picks.{Picks}
use Rattle.lsm_store.specs.declared.worker_end.WorkerEnd.{WorkerEnd}
use Rattle.lsm_store.specs.declared.worker_fault.WorkerFault.{WorkerFault}
use Rattle.lsm_store.specs.declared.worker_fault.WorkerFault.TheVariants as worker
use Rattle.lsm_channels.specs.Compacting.{AreWorkedBy, ClearsRange, IsAimed, IsCleared}
use Rattle.lsm_channels.specs.Compacting.{IsCompactFault}
use Rattle.lsm_channels.specs.Compacting.{IsLastWorker, IsWorkedBy, StopsRange, StopsWorking, Works}

-- a worker's fault is one by which a compaction is refused
of_end : (Honest : Type 0) (installed : ℕ) (fault : WorkerFault) → IsEndOf Honest installed (Some fault) → IsCompactFault Honest fault
of_end Honest installed worker.NoThread e = tt
of_end Honest installed (worker.State f) e = e
of_end Honest installed (worker.Merge f) e = e

pub fault_met : (Honest : Type 0) (e : WorkerEnd) (fault : WorkerFault) → IsWorkersEnd Honest e → e.fault ≡ Some fault → IsCompactFault Honest fault
fault_met Honest e fault end is = of_end Honest e.installed fault (subst (λ (f : Option WorkerFault). IsEndOf Honest e.installed f) is end)

module _ (Honest : Type 0) (Refused : Asked → ShelfFault → Type 0) (keeps : Held → Type 0) (picks : Picks) where
  -- the only worker had the fork
  pub worked_by : (was is : Told) (p : Place) (given : List Told) (ends : List WorkerEnd)
      (e : WorkerEnd) → ForkedTimes 1 was is → given ≡ fork_at p (was.forks + 1) ∷ [] → ends
      ≡ e ∷ []
      → HaveEnded Honest Refused keeps (given_each picks true given) ends
      → IsWorkedBy Honest Refused keeps picks e was is
  worked_by was is p given ends e forked new only all = record {
    forked = forked;
    place = p;
    ended = subst (λ (ts : List Told). HaveEnded Honest Refused keeps (given_each picks true ts)
        (e ∷ [])) new
        (subst (λ (es : List WorkerEnd). HaveEnded Honest Refused keeps
        (given_each picks true given) es) only all);
  }

  pub one_worked : (was is : Told) (e : WorkerEnd) → e.fault ≡ None → IsWorkedBy Honest Refused keeps picks e was is → AreWorkedBy Honest Refused keeps picks 1 was is
  one_worked was is e none by = (was, refl, (e, none, by))

  -- why there was no worker
  pub no_fork : (was is : Told) (why : ShelfFault) → NotNamed why × Counted why was is → Becomes was is → IsLastWorker Honest Refused keeps picks (worker.State (state.Shelf why)) was is
  no_fork was is why cause none = inr (inl (why, refl, cause.0, cause.1, none))

  -- ---- one after another

  joined : (a b c : Told) (n m : ℕ) → AreWorkedBy Honest Refused keeps picks n a b → AreWorkedBy Honest Refused keeps picks m b c → Works Honest Refused keeps picks a c
  joined a b c n zero first none = (n, subst (λ (t : Told). AreWorkedBy Honest Refused keeps picks n a t) (sym none) first)
  joined a b c n (suc m) first more = let before = joined a b more.0 n m first more.1 in (suc before.0, (more.0, before.1, more.2))

  pub works_none : (t : Told) → Works Honest Refused keeps picks t t
  works_none t = (0, refl)

  pub works_more : (a b c : Told) → Works Honest Refused keeps picks a b → AreWorkedBy Honest Refused keeps picks 1 b c → Works Honest Refused keeps picks a c
  works_more a b c first more = joined a b c first.0 1 first.1 more

  pub stops_after : (fault : WorkerFault) (a b c : Told) → Works Honest Refused keeps picks a b → StopsWorking Honest Refused keeps picks fault b c → StopsWorking Honest Refused keeps picks fault a c
  stops_after fault a b c first stops = (stops.0, joined a b stops.0 first.0 stops.1.0 first.1 stops.1.1, stops.2)

  pub stops_first : (fault : WorkerFault) (was is : Told) → IsLastWorker Honest Refused keeps picks fault was is → StopsWorking Honest Refused keeps picks fault was is
  stops_first fault was is last = (was, (0, refl), last)

  -- the look behind a worker was refused
  pub stops_looking : (why : StateFault) (was is : Told) → AreWorkedBy Honest Refused keeps picks 1 was is → IsOfReserving why → StopsWorking Honest Refused keeps picks (worker.State why) was is
  stops_looking why was is one reserving = (is, (1, one), inr (inr (inr (why, refl, reserving, refl))))

  -- ---- a range that was picked

  pub range_clears : (b : Between) (knew mid knows : List Entry) (was is : Told) (r : Result (Unit {0}) WorkerFault) → IsAimed keeps b picks knew mid → OnOk r (IsCleared keeps picks mid knows)
      → OnOk r (Works Honest Refused keeps picks was is) → OnOk r (ClearsRange Honest Refused keeps b knew knows was is)
  range_clears b knew mid knows was is (Ok x) aimed clear works = (picks, mid, aimed, clear, works)
  range_clears b knew mid knows was is (Err e) aimed clear works = tt

  pub range_stops : (b : Between) (knew mid : List Entry) (was is : Told) (r : Result (Unit {0}) WorkerFault) → IsAimed keeps b picks knew mid → IfErr r (λ fault. StopsWorking Honest Refused keeps picks fault was is)
      → IfErr r (λ fault. StopsRange Honest Refused keeps b fault knew was is)
  range_stops b knew mid was is (Ok x) aimed stops = tt
  range_stops b knew mid was is (Err e) aimed stops = inr (picks, mid, aimed, stops)
