-- What was found of a state, and stays; and what workers leave.
use Rattle.std.proofs.Common.{◌≡◌, ℕ, ◌+◌, ◌⊎◌, List, [], ◌∷◌, ◌++◌, sym, ap, ◌∙◌, inl, inr, subst, arith}
use Rattle.std.proofs.Math.Logic.{∥∥₁_elim, ∥∥₁_map, ∥∥₁_prop}
use Rattle.std.proofs.Props.{props}
use Rattle.lsm_codec.specs.Lists.{Has}
use Rattle.lsm_model.specs.Plain.{IsReadable, Plain}
use Rattle.lsm_model.specs.Runs.{Event, Run, Ingest, Snapshot, Release, Reserve, Cancel, Draw, Install, Gather, Spend, Nothing}
use Rattle.lsm_slots.specs.Slots.{Looked, current_id}
use Rattle.lsm_slots.specs.Snapshots.{Taken}
use Rattle.lsm_state.specs.Held.{Held, plain}
use Rattle.lsm_version.specs.Versions.{Levels}
use Rattle.lsm_store.specs.Compacting.{IsAsFound, IsKeptByCompaction, IsLeftByWorkers, IsSeated, IsWorkersRun, installs_in}
use Rattle.lsm_store.proofs.CompactingLaws.{found_by_parts, found_looked}

-- where the last sequence and the snapshots stay, so do the reads that are promised
readable : (found was : Held) (q : ℕ) → was.slots.version.last ≡ found.slots.version.last → was.snapshots ≡ found.snapshots → IsReadable (plain found) q → IsReadable (plain was) q
readable found was q last snapshots r = elim r [
  | inl e ↦ inl (e ∙ sym last)
  | inr p ↦ inr (p.0, subst (λ (t : Taken). Has t.taken p.0) (sym snapshots) p.1, p.2)
]

pub found_then : (Honest : Type 0) (found was is : Held) → IsAsFound Honest found was → IsAsFound Honest was is → IsAsFound Honest found is
found_then Honest found was is a b = record {
  history = b.history ∙ a.history;
  last = b.last ∙ a.last;
  snapshots = b.snapshots ∙ a.snapshots;
  pins = λ id. b.pins id ∙ a.pins id;
  answers = λ h k q r. b.answers h k q (readable found was q a.last a.snapshots r) ∙ a.answers h k q r;
}

-- ---- what workers leave

ran : (Honest : Type 0) (s t u : Plain) (es fs : List Event) → Run Honest s es t → Run Honest t fs u → Run Honest s (es ++ fs) u
ran Honest s t u [] fs first second = subst (λ (p : Plain). Run Honest p fs u) first second
ran Honest s t u (e ∷ es) fs first second = (first.0, first.1, ran Honest first.0 t u es fs first.2 second)

among : (es fs : List Event) (e : Event) → Has (es ++ fs) e → Has es e ⊎ Has fs e
among [] fs e h = inr h
among (x ∷ es) fs e h = elim h [
  | inl s ↦ inl (inl s)
  | inr t ↦ elim (among es fs e t) [ inl l ↦ inl (inr l) | inr r ↦ inr r ]
]

-- installs of both runs
installs_then : (es fs : List Event) → installs_in (es ++ fs) ≡ installs_in es + installs_in fs
installs_then [] fs = omega arith
installs_then (Ingest entries ∷ es) fs = installs_then es fs
installs_then (Snapshot ∷ es) fs = installs_then es fs
installs_then (Release id ∷ es) fs = installs_then es fs
installs_then (Reserve plan job ∷ es) fs = installs_then es fs
installs_then (Cancel ticket ∷ es) fs = installs_then es fs
installs_then (Draw ticket ∷ es) fs = installs_then es fs
installs_then (Install ticket ∷ es) fs = let rest = installs_then es fs in omega (arith, rest)
installs_then (Gather ∷ es) fs = let rest = installs_then es fs in omega (arith, rest)
installs_then (Spend ∷ es) fs = installs_then es fs
installs_then (Nothing ∷ es) fs = installs_then es fs

run_then : (Honest : Type 0) (a b c : Held) → IsWorkersRun Honest a b → IsWorkersRun Honest b c → IsWorkersRun Honest a c
run_then Honest a b c first second = record {
  events = first.events ++ second.events;
  only = λ e h. elim (among first.events second.events e h) [ inl l ↦ first.only e l | inr r ↦ second.only e r ];
  run = ran Honest (plain a) (plain b) (plain c) first.events second.events first.run second.run;
  ids = (let x = first.ids in let y = second.ids in let all = installs_then first.events second.events in omega (arith, x, y, all));
}

-- nothing was done that the plain machine sees
run_none : (Honest : Type 0) (was is : Held) → plain is ≡ plain was → current_id is.slots ≡ current_id was.slots → IsWorkersRun Honest was is
run_none Honest was is same id = record { events = []; only = λ e h. absurd h; run = same; ids = omega (arith, id) }

pub left_kept : (Honest : Type 0) (found : Held) → IsKeptByCompaction Honest (IsLeftByWorkers Honest found)
left_kept Honest found was is step l = record {
  reached = ∥∥₁_map l.reached (λ r. run_then Honest found was is r step.run);
  as_found = found_then Honest found was is l.as_found step.found;
}

plain_seated : (found h : Held) → IsSeated found h → plain h ≡ plain found
plain_seated found h s = ap plain s.1

pub left_seated : (Honest : Type 0) (found h : Held) → IsSeated found h → IsLeftByWorkers Honest found h
left_seated Honest found h s = record {
  reached = ∣ run_none Honest found h (plain_seated found h s) (ap (λ (x : Held). current_id x.slots) s.1 ∙ s.0.current) ∣₁;
  as_found = found_by_parts Honest found h (ap (λ (x : Held). x.slots.version) s.1) (ap (λ (x : Held). x.slots.epochs) s.1)
      (ap (λ (x : Held). x.history) s.1) (ap (λ (x : Held). x.snapshots) s.1);
}

plain_looked : (was is : Held) → Looked was.slots is.slots → is ≡ record was { slots = is.slots } → plain is ≡ plain was
plain_looked was is looked e = ap plain e ∙ ap (λ (v : Levels). plain (record was { slots = record is.slots { version = v } })) looked.version

pub left_looked : (Honest : Type 0) (found was is : Held) → IsLeftByWorkers Honest found was → Looked was.slots is.slots → is ≡ record was { slots = is.slots }
    → IsLeftByWorkers Honest found is
left_looked Honest found was is l looked e = record {
  reached = ∥∥₁_map l.reached (λ r. run_then Honest found was is r (run_none Honest was is (plain_looked was is looked e) looked.id));
  as_found = found_then Honest found was is l.as_found (found_looked Honest was is looked e);
}

pub left_out : (Honest : Type 0) (found h : Held) → ∥ IsLeftByWorkers Honest found h ∥₁ → IsLeftByWorkers Honest found h
left_out Honest found h t = record {
  reached = ∥∥₁_elim t ∥∥₁_prop (λ l. l.reached);
  as_found = record {
    history = ∥∥₁_elim t (Prim.hlevel props) (λ l. l.as_found.history);
    last = ∥∥₁_elim t (Prim.hlevel props) (λ l. l.as_found.last);
    snapshots = ∥∥₁_elim t (Prim.hlevel props) (λ l. l.as_found.snapshots);
    pins = λ id. ∥∥₁_elim t (Prim.hlevel props) (λ l. l.as_found.pins id);
    answers = λ x k q r. ∥∥₁_elim t (Prim.hlevel props) (λ l. l.as_found.answers x k q r);
  };
}
