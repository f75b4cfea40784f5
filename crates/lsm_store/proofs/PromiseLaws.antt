-- Promised reads.
use Rattle.std.proofs.Common.{◌≡◌, ℕ, List, [], ◌∷◌, map, sym, subst, refl, inl, inr}
use Rattle.lsm_codec.specs.Lists.{Has}
use Rattle.lsm_codec.specs.Entries.{Entry}
use Rattle.lsm_model.specs.Runs.{Agrees}
use Rattle.lsm_version.specs.Versions.{Levels}
use Rattle.lsm_history.specs.History.{Edition}
use Rattle.lsm_slots.specs.Slots.{current_id}
use Rattle.lsm_state.specs.Editions.{edition}
use Rattle.lsm_state.specs.Held.{Held, plain}
use Rattle.lsm_store.specs.Promised.{AnswersAll, snapshot_sequences}

map_has : {X Y : Type 0} (f : X → Y) (xs : List X) (y : Y) → Has (map f xs) y → (x : X) × Has xs x × (f x ≡ y)
map_has f [] y h = absurd h
map_has f (z ∷ xs) y (inl e) = (z, inl refl, e)
map_has f (z ∷ xs) y (inr h) = (let r = map_has f xs y h in (r.0, inr r.1, r.2))

-- what a state's current version answers by its law
pub current_answers : (h : Held) → Agrees (plain h) h.history → AnswersAll h.slots.version (snapshot_sequences h) h.history
current_answers h a = record {
  upto = a.upto;
  reads = λ k seq p. a.reads k seq (elim p [ inl e ↦ inl e | inr s ↦ inr (map_has (λ (x : ℕ × ℕ). x.1) h.snapshots.taken seq s) ]);
}

-- the same of what was learnt of the state
pub known_answers : (h : Held) (v : Levels) (snapshots : List ℕ) (history : List Entry) → v ≡ h.slots.version → snapshots ≡ snapshot_sequences h → history ≡ h.history → Agrees (plain h) h.history
    → AnswersAll v snapshots history
known_answers h v snapshots history version sequences all a =
    subst (λ (x : Levels). AnswersAll x snapshots history) (sym version) (subst (λ (x : List ℕ). AnswersAll h.slots.version x history) (sym sequences)
    (subst (λ (x : List Entry). AnswersAll h.slots.version (snapshot_sequences h) x) (sym all) (current_answers h a)))

-- the version that was learnt of a state is listed under the id that was learnt
pub current_listed : (h : Held) (v : Levels) (id : ℕ) (editions : List Edition) → id ≡ current_id h.slots → v ≡ h.slots.version → Has editions (edition (current_id h.slots) h.slots.version) → Has editions (edition id v)
current_listed h v id editions its version there =
    subst (λ (n : ℕ). Has editions (edition n v)) (sym its) (subst (λ (x : Levels). Has editions (edition (current_id h.slots) x)) (sym version) there)
