-- The laws on views, after one view is changed or one is added.
use Rattle.std.proofs.Common.{◌≡◌, ◌≢◌, ℕ, ◌^◌, Some, None, ◌<◌, ◌≤◌, true, eqb, List, [], ◌∷◌, ◌++◌, set, sym, ap, ◌∙◌, subst, ⊎_elim, arith}
use Rattle.lsm_pins.specs.declared.view.View.{View}
use Rattle.lsm_pins.specs.declared.slot_record.SlotRecord.{SlotRecord}
use Rattle.lsm_pins.proofs.SumLemmas.{sum_few, cond_le}
use Rattle.lsm_pins.specs.SlotRecord.{IsInUse, slot_record}
use Rattle.lsm_pins.specs.View.{copied_view, noted_view, parts_of, pins_of, told_view}
use Rattle.lsm_pins.specs.Rule.{BoardState, Fits, IsBounded, KnowsPin}
use Rattle.lsm_pins.proofs.ListLemmas.{at_set, at_snoc}
use Rattle.std.proofs.lemmas.Option.{none-some, same_Some}
use Rattle.std.specs.Prelude.{slice_get, sum_by}

abbrev pub Few : ℕ → List View → Type 0
Few id views = (by : ℕ) (v : View) → slice_get views by ≡ Some v → IsBounded id v

abbrev pub AllFit : BoardState → List View → Type 0
AllFit b views = (by : ℕ) (v : View) → slice_get views by ≡ Some v → v.live ≡ true → Fits b by v

abbrev pub AllTied : List View → Type 0
AllTied views = (x y : ℕ) (c v : View) → slice_get views x ≡ Some c → slice_get views y ≡ Some v → c.live ≡ true → v.live ≡ true → KnowsPin c v

pub pins_bound : (now id : ℕ) (views : List View) → Few now views → sum_by parts_of views ≤ 62 → sum_by (pins_of id) views < 2 ^ 30
pins_bound now id views few parts =
    let sum = sum_few (pins_of id) parts_of views (λ i u e. let a = cond_le (eqb u.id id) u.count in let c = (few i u e).few in omega arith) in
    omega arith

module _ (views : List View) (by : ℕ) (w : View) where
  pub few_set : (id : ℕ) → Few id views → IsBounded id w → Few id (set views by w)
  few_set id old new i u e =
      ⊎_elim (λ (t : (i ≡ by) × (w ≡ u)). subst (IsBounded id) t.1 new) (λ (t : (i ≢ by) × (slice_get views i ≡ Some u)). old i u t.1) (at_set views by i w u e)

  pub fits_set : (b : BoardState) → ((j : ℕ) (u : View) → j ≢ by → slice_get views j ≡ Some u → u.live ≡ true → Fits b j u) → (w.live ≡ true → Fits b by w) → AllFit b (set views by w)
  fits_set b others mine j u e =
      ⊎_elim
      (λ (t : (j ≡ by) × (w ≡ u)). subst (λ (y : ℕ × View). y.1.live ≡ true → Fits b y.0 y.1) (λ i. (sym t.0 i, t.1 i)) mine)
      (λ (t : (j ≢ by) × (slice_get views j ≡ Some u)). others j u t.0 t.1)
      (at_set views by j w u e)

  pub tied_set : AllTied views
      → ((j : ℕ) (u : View) → j ≢ by → slice_get views j ≡ Some u → u.live ≡ true → w.live ≡ true → KnowsPin u w × KnowsPin w u)
      → (w.live ≡ true → KnowsPin w w)
      → AllTied (set views by w)
  tied_set old others mine x y c u ex ey = ⊎_elim
      (λ (t : (x ≡ by) × (w ≡ c)).
      ⊎_elim
      (λ (z : (y ≡ by) × (w ≡ u)). subst (λ (p : View × View). p.0.live ≡ true → p.1.live ≡ true → KnowsPin p.0 p.1) (λ i. (t.1 i, z.1 i)) (λ l _. mine l))
      (λ (z : (y ≢ by) × (slice_get views y ≡ Some u)). subst (λ (p : View). p.live ≡ true → u.live ≡ true → KnowsPin p u) t.1 (λ l m. (others y u z.0 z.1 m l).1))
      (at_set views by y w u ey))
      (λ (t : (x ≢ by) × (slice_get views x ≡ Some c)).
      ⊎_elim
      (λ (z : (y ≡ by) × (w ≡ u)). subst (λ (p : View). c.live ≡ true → p.live ≡ true → KnowsPin c p) z.1 (λ l m. (others x c t.0 t.1 l m).0))
      (λ (z : (y ≢ by) × (slice_get views y ≡ Some u)). old x y c u t.1 z.1)
      (at_set views by y w u ey))
      (at_set views by x w c ex)

module _ (views : List View) (w : View) where
  pub few_snoc : (id : ℕ) → Few id views → IsBounded id w → Few id (views ++ w ∷ [])
  few_snoc id old new i u e =
      ⊎_elim (λ (t : slice_get views i ≡ Some u). old i u t) (λ (t : w ≡ u). subst (IsBounded id) t new) (at_snoc views w u i e)

  pub fits_snoc : (b : BoardState) → AllFit b views → ((j : ℕ) → w.live ≡ true → Fits b j w) → AllFit b (views ++ w ∷ [])
  fits_snoc b old mine j u e =
      ⊎_elim (λ (t : slice_get views j ≡ Some u). old j u t) (λ (t : w ≡ u). subst (λ (x : View). x.live ≡ true → Fits b j x) t (mine j)) (at_snoc views w u j e)

  pub tied_snoc : AllTied views → ((j : ℕ) (u : View) → slice_get views j ≡ Some u → u.live ≡ true → w.live ≡ true → KnowsPin u w × KnowsPin w u) → (w.live ≡ true → KnowsPin w w) → AllTied (views ++ w ∷ [])
  tied_snoc old others mine x y c u ex ey = ⊎_elim
      (λ (t : slice_get views x ≡ Some c).
      ⊎_elim
      (λ (z : slice_get views y ≡ Some u). old x y c u t z)
      (λ (z : w ≡ u). subst (λ (p : View). c.live ≡ true → p.live ≡ true → KnowsPin c p) z (λ l m. (others x c t l m).0))
      (at_snoc views w u y ey))
      (λ (t : w ≡ c).
      ⊎_elim
      (λ (z : slice_get views y ≡ Some u). subst (λ (p : View). p.live ≡ true → u.live ≡ true → KnowsPin p u) t (λ l m. (others y u z m l).1))
      (λ (z : w ≡ u). subst (λ (p : View × View). p.0.live ≡ true → p.1.live ≡ true → KnowsPin p.0 p.1) (λ i. (t i, z i)) (λ l _. mine l))
      (at_snoc views w u y ey))
      (at_snoc views w c x ex)

-- a slot whose record is free is none that has an id
pub free_apart : (records : List SlotRecord) (s t i : ℕ) (r : SlotRecord) → slice_get records s ≡ Some r → r.id ≡ None → IsInUse records t i → s ≢ t
free_apart records s t i r e free n same =
    let other : slice_get records s ≡ Some (slot_record (Some i) n.total) = ap (λ k. slice_get records k) same ∙ n.is in
    let is : r ≡ slot_record (Some i) n.total = same_Some _ _ (sym e ∙ other) in
    none-some i (sym free ∙ ap (λ (x : SlotRecord). x.id) is)

-- What the publisher and a pinner that meet know of the pin. The pinner's view is v0, v1 once it has given the copy `seen`, and w
-- once it has taken the copy `told`; the publisher's is p0, p1 once it has taken `seen`, and p2 once it has given `told`.
pub met_in_use : (v0 v1 seen p0 p1 p2 told w : View) (i s : ℕ)
    → v0.held ≡ Some (i, s) → i ≤ v0.id
    → seen ≡ copied_view v0 → v1 ≡ v0
    → p1 ≡ noted_view p0 seen → seen.id ≤ p0.id
    → told ≡ copied_view p1 → p1.told_id ≡ p1.id → p2 ≡ p1
    → w ≡ told_view v1 told → KnowsPin w w
    → IsInUse p2.records s i
met_in_use v0 v1 seen p0 p1 p2 told w i s held earlier seen_is v1_is p1_is below told_is current p2_is w_is known =
    let still_held : w.held ≡ Some (i, s) = ap (λ (x : View). x.held) w_is ∙ ap (λ (x : View). x.held) v1_is ∙ held in
    let seen_id = ap (λ (x : View). x.id) seen_is in
    let same_id = ap (λ (x : View). x.id) p1_is in
    let told_id = ap (λ (x : View). x.told_id) w_is in
    let copied_id = ap (λ (x : View). x.told_id) told_is in
    let same_records : w.records ≡ p2.records = ap (λ (x : View). x.records) w_is ∙ ap (λ (x : View). x.records) told_is ∙ sym (ap (λ (x : View). x.records) p2_is) in
    subst (λ rs. IsInUse rs s i) same_records (known.names i s still_held (omega arith))
