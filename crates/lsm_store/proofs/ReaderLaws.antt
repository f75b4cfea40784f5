-- Steps of a reader.
use Rattle.std.proofs.Common.{◌≡◌, ◌≢◌, ℕ, ◌≤◌, List, Option, None, Some, is_some, if◌then◌else◌, sym, ap, ◌∙◌, arith}
use Rattle.atomic_table.specs.Seated.{TableId}
use Rattle.lsm_codec.specs.Entries.{Entry}
use Rattle.lsm_shelf.specs.Told.{Told}
use Rattle.lsm_version.specs.Versions.{Levels, numbers_in}
use Rattle.lsm_pins.specs.Known.{Known}
use Rattle.lsm_pins.specs.declared.view.View.{View}
use Rattle.lsm_pins.specs.View.{pinned_view, unpinned_view}
use Rattle.lsm_slots.specs.Slots.{Epoch, HasEpoch}
use Rattle.lsm_state.specs.Held.{Held}
use Rattle.lsm_store.specs.Readers.{HasSeen, Learnt, IsBegun, IsMet, IsRefused, pinned, unpinned}
use Rattle.lsm_store.specs.declared.begin_fault.BeginFault.TheVariants.{Moved}

abbrev known_by : TableId → View → Known
known_by b k = record { board = b; knows = k }

abbrev learnt_by : ℕ → Levels → Known → Told → List Entry → List ℕ → Learnt
learnt_by i v p t h s = record { id = i; version = v; pinner = p; told = t; history = h; snapshots = s }

same_known : (a b : Known) → a.board ≡ b.board → a.knows ≡ b.knows → a ≡ b
same_known a b p k = ap (λ (x : TableId). known_by x a.knows) p ∙ ap (λ (x : View). known_by b.board x) k

pub same_learnt : (a b : Learnt) → a.id ≡ b.id → a.version ≡ b.version → a.told ≡ b.told → a.history ≡ b.history → a.snapshots ≡ b.snapshots → a.pinner.board ≡ b.pinner.board
    → a.pinner.knows ≡ b.pinner.knows → a ≡ b
same_learnt a b i v t h s p k =
    ap (λ (x : ℕ). learnt_by x a.version a.pinner a.told a.history a.snapshots) i ∙ ap (λ (x : Levels). learnt_by b.id x a.pinner a.told a.history a.snapshots) v
    ∙ ap (λ (x : Known). learnt_by b.id b.version x a.told a.history a.snapshots) (same_known a.pinner b.pinner p k)
    ∙ ap (λ (x : Told). learnt_by b.id b.version b.pinner x a.history a.snapshots) t ∙ ap (λ (x : List Entry). learnt_by b.id b.version b.pinner b.told x a.snapshots) h
    ∙ ap (λ (x : List ℕ). learnt_by b.id b.version b.pinner b.told b.history x) s

pub begun_at : (r v : Learnt) (slot : ℕ) → v.id ≡ r.id → v.version ≡ r.version → v.told ≡ r.told → v.history ≡ r.history → v.snapshots ≡ r.snapshots → v.pinner.board ≡ r.pinner.board
    → v.pinner.knows ≡ pinned_view r.pinner.knows r.id slot → IsBegun r v
begun_at r v slot i e t h s p k = (slot, same_learnt v (pinned r.id slot r) i e t h s p k)

pub moved_at : (r back : Learnt) (id slot : ℕ) → id ≢ r.id → HasSeen r → r.pinner.knows.id ≤ id → back.id ≡ r.id → back.version ≡ r.version → back.told ≡ r.told → back.history ≡ r.history → back.snapshots ≡ r.snapshots
    → back.pinner.board ≡ r.pinner.board → back.pinner.knows ≡ unpinned_view (pinned_view r.pinner.knows id slot) → IsRefused r back (Moved id)
moved_at r back id slot other seen later i e t h s p k = (omega (arith, seen, later, other), later, (slot, same_learnt back (unpinned (pinned id slot r)) i e t h s p k))

-- where something is held
pub held_so : {X P : Type 0} (o : Option P) (p : P) (x a b : X) → o ≡ Some p → x ≡ (if is_some o then a else b) → x ≡ a
held_so {X} {P} o p x a b h e = e ∙ ap (λ (q : Option P). if is_some q then a else b) h

abbrev id_in : Option (ℕ × ℕ) → ℕ
id_in None = 0
id_in (Some p) = p.0

-- what is met is what the view's pin holds, and has the tables of the view's version
pub met_at : (v : Learnt) (h : Held) (slot : ℕ) (ns : List ℕ) → v.pinner.knows.held ≡ Some (v.id, slot)
    → ((t : ℕ) (e : Epoch) → HasEpoch h.slots t e → e.id ≡ v.id → numbers_in e.version ≡ numbers_in v.version)
    → (t : ℕ) × (i : ℕ) × (e : Epoch) × (v.pinner.knows.held ≡ Some (i, t)) × HasEpoch h.slots t e × (e.id ≡ i) × (ns ≡ numbers_in e.version) → IsMet v h ns
met_at v h slot ns held one m =
    let its : m.1 ≡ v.id = ap id_in (sym m.3 ∙ held) in
    let same = one m.0 m.2 m.4 (m.5 ∙ its) in
    record {
      slot = m.0;
      epoch = m.2;
      held = m.3 ∙ ap (λ (i : ℕ). Some (i, m.0)) its;
      there = m.4;
      its = m.5 ∙ its;
      tables = same;
      numbers_are = m.6 ∙ same;
    }
