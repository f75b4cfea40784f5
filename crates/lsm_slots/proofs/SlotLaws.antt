-- What looks, publications and pins leave of the slots.
use Rattle.std.proofs.Common.{◌≡◌, ◌≢◌, ℕ, zero, suc, ◌+◌, ◌-◌, ◌<◌, ◌≤◌, ◌==◌, Bool, true, false, not, List, [], ◌∷◌, ◌++◌, length, map, replicate, append-nil, append_assoc, Option, Some, None, set, take, get_or, refl, sym, ap, ◌∙◌, subst, inl, inr, arith, length-set}
use Rattle.std.specs.Prelude.{◌⊎◌, if◌then◌else◌, slice_get, slice_set, option_map}
use Rattle.std.proofs.lemmas.Bool.{eq-eqb, eqb-true, both_ways, not-true, cases_eq}
use Rattle.std.proofs.lemmas.List.{length-replicate, map-set, take_all, take_more}
use Rattle.std.proofs.lemmas.Option.{slice_get_within, slice_get-get_or, slice_get-map, get_or_from_slice_get}
use Rattle.lsm_pins.specs.Known.{Known}
use Rattle.lsm_pins.specs.declared.view.View.{View}
use Rattle.lsm_pins.specs.SlotRecord.{unused}
use Rattle.lsm_pins.specs.View.{HasId, after_making, is_unheld, looked_view, slot_ids}
use Rattle.lsm_slots.proofs.Elements.{both_true, map-replicate, replicate_at, set_else, set_found, set_here, set_same}
use Rattle.lsm_version.specs.Versions.{Levels}
use Rattle.lsm_slots.specs.Slots.{AreSlots, Epoch, Freed, HasEpoch, IsFreeSlot, Looked, MayFree, PinsMove, Slotted, current_id, current_slot, first_slots, id_of, is_unpinned, numbers_at, numbers_held, onto, unpinned_from}

-- the same slots, with another note of the board
abbrev pub noted : Slotted → Known → Slotted
noted s k = record s { board = k }

-- the slots after the slot turned free, as the publisher knows
abbrev pub freed : Slotted → Known → ℕ → Slotted
freed s k slot = record { board = k; version = s.version; epochs = slice_set s.epochs slot None }

pub not_current : (v : View) (slot found : ℕ) → is_unheld v slot found ≡ true → slot ≢ v.slot
not_current v slot found u e = both_ways (slot == v.slot) (not-true (slot == v.slot) (both_true (not (slot == v.slot)) _ u)) (eq-eqb slot v.slot e)

-- ---- the board's note alone changes

pub slots_noted : (s : Slotted) (k : Known) → AreSlots s → k.knows.id ≡ s.board.knows.id → k.knows.slot ≡ s.board.knows.slot → slot_ids k.knows ≡ slot_ids s.board.knows → AreSlots (noted s k)
slots_noted s k a id slot ids = record {
  ids = a.ids ∙ sym ids;
  few = a.few;
  pins = a.pins;
  current = ap (slice_get s.epochs) slot ∙ (a.current ∙ ap (λ i. Some (Some record { id = i; version = s.version; pins = a.pins })) (sym id));
  below = λ i n h. (let le = a.below i n (subst (λ l. slice_get l i ≡ Some (Some n)) ids h) in omega arith);
  one_each = λ i j n h g. a.one_each i j n (subst (λ l. slice_get l i ≡ Some (Some n)) ids h) (subst (λ l. slice_get l j ≡ Some (Some n)) ids g);
}

-- ---- looks

-- an id that stands after a slot turned free stood there before
pub was_id : (ids : List (Option ℕ)) (slot i n : ℕ) → slice_get (set ids slot None) i ≡ Some (Some n) → slice_get ids i ≡ Some (Some n)
was_id ids slot i n h = elim (cases_eq i slot) [
  | inl same ↦ (
      let g : slice_get (set ids slot None) slot ≡ Some (Some n) = subst (λ p. slice_get (set ids slot None) p ≡ Some (Some n)) same h in
      let f = set_found ids slot None (Some n) g in
      let c : Some None ≡ Some (Some n) = sym f ∙ g in
      cc)
  | inr other ↦ sym (set_else ids slot i None other) ∙ h
]

pub slots_freed : (s : Slotted) (k : Known) (slot found : ℕ) → AreSlots s → k.knows ≡ looked_view s.board.knows slot found
    → slot_ids k.knows ≡ slice_set (slot_ids s.board.knows) slot None → is_unheld s.board.knows slot found ≡ true → AreSlots (freed s k slot)
slots_freed s k slot found a looked ids unheld =
    let id : k.knows.id ≡ s.board.knows.id = ap (λ (v : View). v.id) looked in
    let was : (i n : ℕ) → HasId k.knows i n → HasId s.board.knows i n = λ i n h. was_id (slot_ids s.board.knows) slot i n (subst (λ l. slice_get l i ≡ Some (Some n)) ids h) in
    record {
      ids = map-set id_of s.epochs slot None ∙ (ap (λ l. set l slot None) a.ids ∙ sym ids);
      few = subst (λ n. n ≤ 64) (sym (length-set s.epochs slot None)) a.few;
      pins = a.pins;
      current = ap (λ (v : View). slice_get (set s.epochs slot None) v.slot) looked
          ∙ (set_else s.epochs slot (current_slot s) None (λ e. not_current s.board.knows slot found unheld (sym e))
          ∙ (a.current ∙ ap (λ (v : View). Some (Some record { id = v.id; version = s.version; pins = a.pins })) (sym looked)));
      below = λ i n h. (let le = a.below i n (was i n h) in omega arith);
      one_each = λ i j n h g. a.one_each i j n (was i n h) (was j n g);
    }

pub looked_freed : (s : Slotted) (k : Known) (slot found : ℕ) (e : Epoch) → k.board ≡ s.board.board → k.knows ≡ looked_view s.board.knows slot found
    → is_unheld s.board.knows slot found ≡ true → slice_get s.epochs slot ≡ Some (Some e) → e.pins ≡ 0 → Looked s (freed s k slot)
looked_freed s k slot found e board looked unheld had pins = record {
  board = board;
  id = ap (λ (v : View). v.id) looked;
  slot = ap (λ (v : View). v.slot) looked;
  version = refl;
  length = length-set s.epochs slot None;
  each = λ n. elim (cases_eq n slot) [
    | inl same ↦ inr record {
      epoch = e;
      had = ap (λ i. slice_get s.epochs i) same ∙ had;
      unpinned = pins;
      retired = λ q. not_current s.board.knows slot found unheld (sym same ∙ q);
      free = ap (λ i. slice_get (set s.epochs slot None) i) same ∙ set_here s.epochs slot None (slice_get_within s.epochs slot (Some e) had);
    }
    | inr other ↦ inl (set_else s.epochs slot n None other)
  ];
}

pub looked_start : (s : Slotted) → Looked s s
looked_start s = record { board = refl; id = refl; slot = refl; version = refl; length = refl; each = λ n. inl refl }

pub looked_then : (a b c : Slotted) → Looked a b → Looked b c → Looked a c
looked_then a b c x y = record {
  board = y.board ∙ x.board;
  id = y.id ∙ x.id;
  slot = y.slot ∙ x.slot;
  version = y.version ∙ x.version;
  length = y.length ∙ x.length;
  each = λ n. go n (x.each n) (y.each n);
}
  where
    go : (n : ℕ) → (slice_get b.epochs n ≡ slice_get a.epochs n) ⊎ Freed a b n → (slice_get c.epochs n ≡ slice_get b.epochs n) ⊎ Freed b c n
        → (slice_get c.epochs n ≡ slice_get a.epochs n) ⊎ Freed a c n
    go n (inl p) (inl q) = inl (q ∙ p)
    go n (inl p) (inr f) = inr record { epoch = f.epoch; had = sym p ∙ f.had; unpinned = f.unpinned; retired = λ e. f.retired (e ∙ sym x.slot); free = f.free }
    go n (inr f) (inl q) = inr record { epoch = f.epoch; had = f.had; unpinned = f.unpinned; retired = f.retired; free = q ∙ f.free }
    go n (inr f) (inr h) = inr record { epoch = f.epoch; had = f.had; unpinned = f.unpinned; retired = f.retired; free = h.free }

-- ---- which slots were looked at

onto_snoc : (ns : List ℕ) (n : ℕ) (there : List ℕ) → onto (ns ++ n ∷ []) there ≡ n ∷ onto ns there
onto_snoc [] n there = refl
onto_snoc (m ∷ ms) n there = onto_snoc ms n (m ∷ there)

-- one place more or not, in front of two lists
in_front : (place : ℕ) (b : Bool) (xs ys zs : List ℕ) → xs ≡ ys ++ zs
    → (if b then place ∷ xs else xs) ≡ (if b then place ∷ ys else ys) ++ zs
in_front place true xs ys zs same = ap (λ l. place ∷ l) same
in_front place false xs ys zs same = same

in_front_same : (place : ℕ) (b : Bool) (xs ys : List ℕ) → xs ≡ ys
    → (if b then place ∷ xs else xs) ≡ (if b then place ∷ ys else ys)
in_front_same place b xs ys same = ap (λ l. if b then place ∷ l else l) same

-- one version more, which has no pin under the lock
unpinned_yes : (es : List (Option Epoch)) (i j : ℕ) → i < length es
    → is_unpinned (get_or es i None) ≡ true
    → unpinned_from j (take (suc i) es) ≡ unpinned_from j (take i es) ++ (j + i) ∷ []
unpinned_yes [] i j lt y = absurd (omega arith)
unpinned_yes (e ∷ es) zero j lt y =
    let at : j ≡ j + 0 = omega arith in
    ap (λ b. if b then j ∷ [] else []) y ∙ ap (λ n. n ∷ []) at
unpinned_yes (e ∷ es) (suc i) j lt y =
    let at : suc j + i ≡ j + suc i = omega arith in
    in_front j (is_unpinned e) (unpinned_from (suc j) (take (suc i) es))
    (unpinned_from (suc j) (take i es)) ((j + suc i) ∷ [])
    (unpinned_yes es i (suc j) (omega arith) y
    ∙ ap (λ n. unpinned_from (suc j) (take i es) ++ n ∷ []) at)

-- and one that has a pin, or a free slot
unpinned_no : (es : List (Option Epoch)) (i j : ℕ) → i < length es
    → is_unpinned (get_or es i None) ≡ false
    → unpinned_from j (take (suc i) es) ≡ unpinned_from j (take i es)
unpinned_no [] i j lt y = absurd (omega arith)
unpinned_no (e ∷ es) zero j lt y = ap (λ b. if b then j ∷ [] else []) y
unpinned_no (e ∷ es) (suc i) j lt y =
    in_front_same j (is_unpinned e) (unpinned_from (suc j) (take (suc i) es))
    (unpinned_from (suc j) (take i es)) (unpinned_no es i (suc j) (omega arith) y)

-- the slots that a look may free, without the current one
abbrev pub others : Slotted → List (Option Epoch)
others s = slice_set s.epochs (current_slot s) None

-- How the looks stand, once the slots below this one were gone through: just those were looked at that a look may free, and the slots from there on are as they were.
pub record AreGone (s now : Slotted) (slot : ℕ) : Type 0 where
  pub looked : Looked s now
  pub looks : now.board.knows.looks ≡ onto (unpinned_from 0 (take slot (others s))) s.board.knows.looks
  pub rest : (i : ℕ) → slot ≤ i → slice_get now.epochs i ≡ slice_get s.epochs i

pub gone_none : (s : Slotted) → AreGone s s 0
gone_none s = record { looked = looked_start s; looks = refl; rest = λ i le. refl }

may_count : (s : Slotted) (slot : ℕ) → MayFree s slot → is_unpinned (get_or (others s) slot None) ≡ true
may_count s slot m =
    let at : slice_get (others s) slot ≡ Some (Some m.1.0) = set_else s.epochs (current_slot s) slot None m.0 ∙ m.1.1 in
    ap is_unpinned (get_or_from_slice_get (others s) slot (Some m.1.0) None at) ∙ eq-eqb m.1.0.pins 0 m.1.2

may_not : (s : Slotted) (slot : ℕ) → (MayFree s slot → ⊥) → (o : Option Epoch) → slice_get (others s) slot ≡ Some o → is_unpinned o ≡ false
may_not s slot m None at = refl
may_not s slot m (Some e) at = elim (cases_eq slot (current_slot s)) [
  | inl same ↦ (
      let g : slice_get (others s) (current_slot s) ≡ Some (Some e) = subst (λ p. slice_get (others s) p ≡ Some (Some e)) same at in
      let f = set_found s.epochs (current_slot s) None (Some e) g in
      let c : Some None ≡ Some (Some e) = sym f ∙ g in
      cc)
  | inr other ↦ not_zero (e.pins == 0) (λ t. m (other, (e, sym (set_else s.epochs (current_slot s) slot None other) ∙ at, eqb-true e.pins 0 t)))
]
  where
    not_zero : (b : Bool) → (b ≡ true → ⊥) → b ≡ false
    not_zero true h = absurd (h refl)
    not_zero false h = refl

-- whether a look may free a slot from which on the slots are as they were
pub may_was : (s now : Slotted) (slot : ℕ) → AreGone s now slot → MayFree now slot → MayFree s slot
may_was s now slot g m = (λ e. m.0 (e ∙ sym g.looked.slot), (m.1.0, sym (g.rest slot (omega arith)) ∙ m.1.1, m.1.2))

pub may_now : (s now : Slotted) (slot : ℕ) → AreGone s now slot → MayFree s slot → MayFree now slot
may_now s now slot g m = (λ e. m.0 (e ∙ g.looked.slot), (m.1.0, g.rest slot (omega arith) ∙ m.1.1, m.1.2))

-- a slot was looked at
pub gone_looked : (s now after : Slotted) (slot : ℕ) → slot < length s.epochs → AreGone s now slot → MayFree now slot → Looked now after → after.board.knows.looks ≡ slot ∷ now.board.knows.looks
    → ((i : ℕ) → (i ≡ slot → ⊥) → slice_get after.epochs i ≡ slice_get now.epochs i) → AreGone s after (slot + 1)
gone_looked s now after slot lt g m l k r =
    let longer = length-set s.epochs (current_slot s) None in
    let on : slot + 1 ≡ suc slot = omega arith in
    let more = unpinned_yes (others s) slot 0 (omega arith) (may_count s slot (may_was s now slot g m)) in
    let place : slot ≡ 0 + slot = omega arith in
    record {
      looked = looked_then s now after g.looked l;
      looks = k ∙ (ap (λ ns. slot ∷ ns) g.looks ∙ (sym (onto_snoc (unpinned_from 0 (take slot (others s))) slot s.board.knows.looks)
          ∙ ap (λ n. onto (unpinned_from 0 (take slot (others s)) ++ n ∷ []) s.board.knows.looks) place
          ∙ ap (λ ns. onto ns s.board.knows.looks) (sym more ∙ ap (λ n. unpinned_from 0 (take n (others s))) (sym on))));
      rest = λ i le. r i (λ e. absurd (omega arith)) ∙ g.rest i (omega arith);
    }

-- a slot was passed by
pub gone_passed : (s now : Slotted) (slot : ℕ) → slot < length s.epochs → AreGone s now slot → (MayFree now slot → ⊥) → AreGone s now (slot + 1)
gone_passed s now slot lt g m =
    let longer = length-set s.epochs (current_slot s) None in
    let at = slice_get-get_or (others s) slot None (omega arith) in
    let on : slot + 1 ≡ suc slot = omega arith in
    let more = unpinned_no (others s) slot 0 (omega arith) (may_not s slot (λ h. m (may_now s now slot g h)) (get_or (others s) slot None) at) in
    record {
      looked = g.looked;
      looks = g.looks ∙ ap (λ ns. onto ns s.board.knows.looks) (sym more ∙ ap (λ n. unpinned_from 0 (take n (others s))) (sym on));
      rest = λ i le. g.rest i (omega arith);
    }

-- all slots were gone through
pub gone_all : (s now : Slotted) (slot : ℕ) → length s.epochs ≤ slot → AreGone s now slot → now.board.knows.looks ≡ onto (unpinned_from 0 (others s)) s.board.knows.looks
gone_all s now slot le g =
    let longer = length-set s.epochs (current_slot s) None in
    g.looks ∙ ap (λ l. onto (unpinned_from 0 l) s.board.knows.looks) (take_all slot (others s) (omega arith))

-- ---- publications

-- an id that stands after a publication is the new one in its slot, or stood there before
pub new_or_was : (ids : List (Option ℕ)) (slot id i n : ℕ) → slice_get (set ids slot (Some id)) i ≡ Some (Some n) → ((i ≡ slot) × (n ≡ id)) ⊎ (slice_get ids i ≡ Some (Some n))
new_or_was ids slot id i n h = elim (cases_eq i slot) [
  | inl same ↦ (
      let g : slice_get (set ids slot (Some id)) slot ≡ Some (Some n) = subst (λ p. slice_get (set ids slot (Some id)) p ≡ Some (Some n)) same h in
      let f = set_found ids slot (Some id) (Some n) g in
      let c : Some (Some id) ≡ Some (Some n) = sym f ∙ g in
      inl (same, cc))
  | inr other ↦ inr (sym (set_else ids slot i (Some id) other) ∙ h)
]

pub slots_published : (s : Slotted) (k : Known) (slot id : ℕ) (version : Levels) (e : Epoch) → AreSlots s → IsFreeSlot s slot
    → slot_ids k.knows ≡ slice_set (slot_ids s.board.knows) slot (Some id) → k.knows.id ≡ id → k.knows.slot ≡ slot → id ≡ current_id s + 1
    → e ≡ record { id = id; version = version; pins = 0 }
    → AreSlots record { board = k; version = version; epochs = slice_set s.epochs slot (Some e) }
slots_published s k slot id version e a free ids is at next made = record {
  ids = map-set id_of s.epochs slot (Some e) ∙ (ap (λ l. set l slot (Some e.id)) a.ids ∙ (ap (λ (x : Epoch). set (slot_ids s.board.knows) slot (Some x.id)) made ∙ sym ids));
  few = subst (λ n. n ≤ 64) (sym (length-set s.epochs slot (Some e))) a.few;
  pins = 0;
  current = ap (λ i. slice_get (set s.epochs slot (Some e)) i) at ∙ (set_here s.epochs slot (Some e) (slice_get_within s.epochs slot None free)
      ∙ (ap (λ (x : Epoch). Some (Some x)) made ∙ ap (λ i. Some (Some record { id = i; version = version; pins = 0 })) (sym is)));
  below = λ i n h. elim (said i n h) [ inl new ↦ (let x = new.1 in omega arith) | inr was ↦ (let le = a.below i n was in omega arith) ];
  one_each = λ i j n h g. one i j n (said i n h) (said j n g);
}
  where
    said : (i n : ℕ) → HasId k.knows i n → ((i ≡ slot) × (n ≡ id)) ⊎ HasId s.board.knows i n
    said i n h = new_or_was (slot_ids s.board.knows) slot id i n (subst (λ l. slice_get l i ≡ Some (Some n)) ids h)

    one : (i j n : ℕ) → ((i ≡ slot) × (n ≡ id)) ⊎ HasId s.board.knows i n → ((j ≡ slot) × (n ≡ id)) ⊎ HasId s.board.knows j n → i ≡ j
    one i j n (inl x) (inl y) = x.0 ∙ sym y.0
    one i j n (inl x) (inr y) = (let le = a.below j n y in let z = x.1 in absurd (omega arith))
    one i j n (inr x) (inl y) = (let le = a.below i n x in let z = y.1 in absurd (omega arith))
    one i j n (inr x) (inr y) = a.one_each i j n x y

-- ---- a new board

pub slots_first : (k : Known) (slots id readers : ℕ) (v : Levels) → 0 < slots → slots ≤ 64 → k.knows ≡ after_making slots id readers → AreSlots (first_slots k slots v)
slots_first k slots id readers v some few e = record {
  ids = ap (λ i. Some i ∷ map id_of (replicate (slots - 1) None)) current ∙ (ap (λ l. Some id ∷ l) (map-replicate id_of (slots - 1) None ∙ sym (map-replicate (λ r. r.id) (slots - 1) unused)) ∙ sym all);
  few = (let n = length-replicate (slots - 1) (none_of Epoch) in omega arith);
  pins = 0;
  current = ap (slice_get (first_slots k slots v).epochs) (ap (λ (w : View). w.slot) e);
  below = λ i n h. below i n (subst (λ l. slice_get l i ≡ Some (Some n)) all' h);
  one_each = λ i j n h g. first i n (subst (λ l. slice_get l i ≡ Some (Some n)) all' h) ∙ sym (first j n (subst (λ l. slice_get l j ≡ Some (Some n)) all' g));
}
  where
    none_of : (X : Type 0) → Option X
    none_of X = None

    current : k.knows.id ≡ id
    current = ap (λ (w : View). w.id) e

    all : slot_ids k.knows ≡ Some id ∷ map (λ r. r.id) (replicate (slots - 1) unused)
    all = ap slot_ids e

    all' : slot_ids k.knows ≡ Some id ∷ replicate (slots - 1) None
    all' = all ∙ ap (λ l. Some id ∷ l) (map-replicate (λ r. r.id) (slots - 1) unused)

    first : (i n : ℕ) → slice_get (Some id ∷ replicate (slots - 1) None) i ≡ Some (Some n) → i ≡ 0
    first zero n h = refl
    first (suc i) n h = (let d : None ≡ Some n = replicate_at (slots - 1) i None (Some n) h in cc)

    below : (i n : ℕ) → slice_get (Some id ∷ replicate (slots - 1) None) i ≡ Some (Some n) → n ≤ k.knows.id
    below zero n h = (let d : Some (Some id) ≡ Some (Some n) = h in let f : id ≡ n = cc in let same = current in omega arith)
    below (suc i) n h = (let d : None ≡ Some n = replicate_at (slots - 1) i None (Some n) h in cc)

-- ---- pins under the lock

pub slots_pinned : (s : Slotted) (slot pins : ℕ) (e : Epoch) → AreSlots s → HasEpoch s slot e → AreSlots (record s { epochs = slice_set s.epochs slot (Some (record e { pins = pins })) })
slots_pinned s slot pins e a had = elim (cases_eq (current_slot s) slot) [
  | inl same ↦ (
      let now : Some (Some e) ≡ Some (Some record { id = current_id s; version = s.version; pins = a.pins }) = sym had ∙ (ap (slice_get s.epochs) (sym same) ∙ a.current) in
      let is : e ≡ record { id = current_id s; version = s.version; pins = a.pins } = cc in
      pinned pins (ap (slice_get epochs) same ∙ (set_here s.epochs slot (Some (record e { pins = pins })) within ∙ ap (λ (x : Epoch). Some (Some (record x { pins = pins }))) is)))
  | inr other ↦ pinned a.pins (set_else s.epochs slot (current_slot s) (Some (record e { pins = pins })) other ∙ a.current)
]
  where
    epochs : List (Option Epoch)
    epochs = slice_set s.epochs slot (Some (record e { pins = pins }))

    within : slot < length s.epochs
    within = slice_get_within s.epochs slot (Some e) had

    ids : map id_of epochs ≡ slot_ids s.board.knows
    ids = map-set id_of s.epochs slot (Some (record e { pins = pins }))
        ∙ (set_same (map id_of s.epochs) slot (Some e.id) (slice_get-map id_of s.epochs slot ∙ ap (option_map id_of) had) ∙ a.ids)

    pinned : (n : ℕ) → slice_get epochs (current_slot s) ≡ Some (Some record { id = current_id s; version = s.version; pins = n }) → AreSlots (record s { epochs = epochs })
    pinned n current = record {
      ids = ids;
      few = subst (λ m. m ≤ 64) (sym (length-set s.epochs slot (Some (record e { pins = pins })))) a.few;
      pins = n;
      current = current;
      below = a.below;
      one_each = a.one_each;
    }

-- the epoch of the current slot has the current id
pub current_epoch : (s : Slotted) (slot : ℕ) (e : Epoch) → AreSlots s → slot ≡ current_slot s → HasEpoch s slot e → e.id ≡ current_id s
current_epoch s slot e a same had =
    let now : Some (Some e) ≡ Some (Some record { id = current_id s; version = s.version; pins = a.pins }) = sym had ∙ (ap (slice_get s.epochs) same ∙ a.current) in
    let is : e ≡ record { id = current_id s; version = s.version; pins = a.pins } = cc in
    ap (λ (x : Epoch). x.id) is

pub pins_moved : (s : Slotted) (slot id from to : ℕ) (e : Epoch) (es : List (Option Epoch)) → HasEpoch s slot e → e.id ≡ id → e.pins ≡ from
    → es ≡ slice_set s.epochs slot (Some (record e { pins = to })) → PinsMove s (record s { epochs = es }) id from to
pins_moved s slot id from to e es had its was is = record { slot = slot; epoch = e; had = had; its = its; from_is = was; is = ap (λ l. record s { epochs = l }) is }

pub same_epoch : (s : Slotted) (slot : ℕ) (e f : Epoch) → HasEpoch s slot e → HasEpoch s slot f → e ≡ f
same_epoch s slot e f a b = (let both : Some (Some e) ≡ Some (Some f) = sym a ∙ b in cc)

-- the slot of an id that the board has
pub epoch_of : (s : Slotted) (slot id : ℕ) → AreSlots s → HasId s.board.knows slot id → (e : Epoch) × HasEpoch s slot e × (e.id ≡ id)
epoch_of s slot id a h = go (slice_get s.epochs slot) refl (sym (slice_get-map id_of s.epochs slot) ∙ (ap (λ l. slice_get l slot) a.ids ∙ h))
  where
    go : (o : Option (Option Epoch)) → slice_get s.epochs slot ≡ o → option_map id_of (slice_get s.epochs slot) ≡ Some (Some id) → (e : Epoch) × HasEpoch s slot e × (e.id ≡ id)
    go None at h = (let d : None ≡ Some (Some id) = ap (option_map id_of) (sym at) ∙ h in cc)
    go (Some None) at h = (let d : Some None ≡ Some (Some id) = ap (option_map id_of) (sym at) ∙ h in cc)
    go (Some (Some e)) at h = (e, at, (let d : Some (Some e.id) ≡ Some (Some id) = ap (option_map id_of) (sym at) ∙ h in cc))

-- ---- numbers

held_split : (xs ys : List (Option Epoch)) → numbers_held (xs ++ ys) ≡ numbers_held xs ++ numbers_held ys
held_split [] ys = refl
held_split (x ∷ xs) ys = ap (λ l. numbers_at x ++ l) (held_split xs ys) ∙ sym (append_assoc (numbers_at x) (numbers_held xs) (numbers_held ys))

pub held_more : (es : List (Option Epoch)) (i : ℕ) → i < length es → numbers_held (take (i + 1) es) ≡ numbers_held (take i es) ++ numbers_at (get_or es i None)
held_more es i lt = ap numbers_held (take_more es i None lt) ∙ (held_split (take i es) (get_or es i None ∷ []) ∙ ap (λ l. numbers_held (take i es) ++ l) (append-nil (numbers_at (get_or es i None))))
