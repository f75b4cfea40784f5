-- A number below the next that is not kept is not kept again.
use Rattle.std.proofs.Common.{◌≡◌, ℕ, ◌+◌, ◌<◌, ◌≤◌, List, [], ◌∷◌, refl, sym, ap, subst, inl, inr, arith, ◌⊎◌}
use Rattle.lsm_codec.specs.Lists.{Has}
use Rattle.lsm_model.specs.Files.{File}
use Rattle.lsm_model.specs.Law.{Law}
use Rattle.lsm_model.specs.Plain.{Live}
use Rattle.lsm_model.specs.Runs.{Event, Ingest, Spend, Run}
use Rattle.lsm_version.specs.Versions.{Levels, files}
use Rattle.lsm_shelf.specs.Asked.{Asked}
use Rattle.lsm_shelf.specs.Told.{Told}
use Rattle.lsm_shelf.specs.declared.shelf_fault.ShelfFault.{ShelfFault}
use Rattle.lsm_batch.specs.declared.write.Write.{Write}
use Rattle.lsm_slots.specs.Slots.{AreSlots}
use Rattle.lsm_live.specs.Booked.{Booked, live_of}
use Rattle.lsm_live.proofs.CallerLemmas.{live_has, live_says}
use Rattle.lsm_state.specs.Collecting.{IsKeptNumber}
use Rattle.lsm_state.specs.Held.{Held, plain}
use Rattle.lsm_state.specs.Ingesting.{IsIngestRefusal, entries_of}
use Rattle.lsm_state.specs.declared.state_fault.StateFault.{StateFault}
use Rattle.lsm_store.specs.Background.{IsIngestStep}
use Rattle.lsm_store.specs.Compacting.{AddsCurrentAlone, IsCompactingStep, KeepsNoMore}
use Rattle.lsm_store.proofs.CompactingLaws.{adds_looked, adds_none, adds_published}
use Rattle.lsm_store.proofs.NamedLaws.{IsNamed, named_run}

-- what the plain machine names is kept: the current version has a slot
named_kept : (h : Held) (n : ℕ) → AreSlots h.slots → IsNamed (plain h) n → IsKeptNumber h n
named_kept h n slots (inl f) = inl (h.slots.board.knows.slot, _, f.0, slots.current, f.1, f.2)
named_kept h n slots (inr a) = (let b = live_says h.live a.0 a.1 in inr (b.0, b.1, subst (λ (x : Live). Has x.drawn n) (sym b.2) a.2))

kept_no_more : (Honest : Type 0) (was is : Held) (events : List Event) → Law Honest (plain was) → AreSlots was.slots → Run Honest (plain was) events (plain is)
    → AddsCurrentAlone was.slots is.slots → KeepsNoMore was is
kept_no_more Honest was is events law slots run adds =
    let names = named_run Honest (plain was) events (plain is) law run in
    record {
      next = names.next;
      kept = λ n lt k. elim k [
        | inl held ↦ elim (adds held.0 held.1 held.3) [
          | inl had ↦ inl (had.0, had.1, held.2, had.2, subst (λ (v : Levels). Has (files v) held.2) (sym had.3) held.4, held.5)
          | inr current ↦ named_kept was n slots (names.named n lt (inl (held.2, subst (λ (v : Levels). Has (files v) held.2) current held.4, held.5)))
        ]
        | inr drawn ↦ named_kept was n slots (names.named n lt (inr (live_of drawn.0, live_has is.live drawn.0 drawn.1, drawn.2)))
      ];
    }

pub kept_compacting : (Honest : Type 0) (was is : Held) → Law Honest (plain was) → AreSlots was.slots → IsCompactingStep Honest was is → KeepsNoMore was is
kept_compacting Honest was is law slots step = kept_no_more Honest was is step.run.events law slots step.run.run step.slots

-- ---- ingests

refused_adds : (was is : Held) (ws : List Write) (e : StateFault) (t u : Told) → IsIngestRefusal was is ws e t u → AddsCurrentAlone was.slots is.slots
refused_adds was is ws e t u (inl early) = adds_none was.slots is.slots (ap (λ (h : Held). h.slots) early.1)
refused_adds was is ws e t u (inr (welcome, inl slot)) = adds_looked was.slots is.slots slot.1.looked
refused_adds was is ws e t u (inr (welcome, inr (sought, slot, rest))) = adds_looked was.slots is.slots sought.looked

pub kept_ingest : (Honest : Type 0) (Refused : Asked → ShelfFault → Type 0) (ws : List Write) (was is : Held) → Law Honest (plain was) → AreSlots was.slots → IsIngestStep Refused ws was is
    → KeepsNoMore was is
kept_ingest Honest Refused ws was is law slots (inl came) =
    let i = came.3.ingests in
    kept_no_more Honest was is (Ingest (entries_of was ws) ∷ []) law slots (plain is, came.3.event, refl) (adds_published was.slots i.slots is.slots _ i.sought.looked i.changes.published)
kept_ingest Honest Refused ws was is law slots (inr out) =
    kept_no_more Honest was is (Spend ∷ []) law slots (plain is, out.3.event, refl) (refused_adds was is ws out.0 out.1 out.2 out.3.refusal)

-- ---- one after another

pub kept_then : (a b c : Held) → KeepsNoMore a b → KeepsNoMore b c → KeepsNoMore a c
kept_then a b c p q = record {
  next = (let x = p.next in let y = q.next in omega arith);
  kept = λ n lt k. p.kept n lt (q.kept n (let x = p.next in omega (arith, lt, x)) k);
}
