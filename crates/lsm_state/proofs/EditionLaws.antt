-- What calls leave of the editions of a state.
use Rattle.std.proofs.Common.{◌≡◌, ℕ, zero, suc, ◌-◌, Bool, true, false, if◌then◌else◌, Option, None, Some, replicate, List, [], ◌∷◌, ◌++◌, sym, ◌∙◌, ap, subst, inl, inr, arith}
use Rattle.std.specs.Prelude.{slice_get, slice_set}
use Rattle.std.proofs.lemmas.Bool.{cases_eq}
use Rattle.lsm_codec.specs.Lists.{Has}
use Rattle.lsm_codec.proofs.CallerLemmas.{has_right}
use Rattle.lsm_history.specs.History.{Edition, IsLater}
use Rattle.lsm_pins.specs.Known.{Known}
use Rattle.lsm_pins.specs.View.{noted_view}
use Rattle.lsm_pins.specs.declared.view.View.{View}
use Rattle.lsm_version.specs.Versions.{Levels, numbers_in}
use Rattle.lsm_slots.specs.Slots.{AreSlots, Epoch, HasEpoch, Looked, PinsMove, Published, Slotted, current_id, current_slot, first_slots}
use Rattle.lsm_slots.proofs.CallerLemmas.{set_else, set_found}
use Rattle.lsm_state.specs.Editions.{AreEditions, edition}

-- ---- the first version

none_there : (m slot : ℕ) (e : Epoch) → slice_get (replicate m None) slot ≡ Some (Some e) → ⊥
none_there zero slot e h = (let no : None ≡ Some (Some e) = h in cc)
none_there (suc m) zero e h = (let no : Some None ≡ Some (Some e) = h in cc)
none_there (suc m) (suc slot) e h = none_there m slot e h

pub first_edition : (board : Known) (n : ℕ) (v : Levels) → AreEditions (first_slots board n v) (edition board.knows.id v ∷ [])
first_edition board n v = record {
  each = each;
  upto = λ x h. elim h [ inl e ↦ (let same = ap (λ (y : Edition). y.id) e in omega arith) | inr k2 ↦ absurd k2 ];
  one = λ x y h k e. elim h [
    | inl a ↦ elim k [ inl b ↦ sym a ∙ b | inr k2 ↦ absurd k2 ]
    | inr k2 ↦ absurd k2
  ];
}
  where
    each : (slot : ℕ) (e : Epoch) → HasEpoch (first_slots board n v) slot e → Has (edition board.knows.id v ∷ []) (edition e.id e.version)
    each zero e h = (let one : Epoch = record { id = board.knows.id; version = v; pins = 0 } in let both : Some (Some one) ≡ Some (Some e) = h in let same : one ≡ e = cc in
        inl (ap (λ (x : Epoch). edition x.id x.version) same))
    each (suc slot) e h = absurd (none_there (n - 1) slot e h)

-- the slots as they were made, whose version was listed
pub made_editions : (s : Slotted) (board : Known) (n : ℕ) (v w : Levels) (id : ℕ) (said was is : List Edition) → s ≡ first_slots board n v → id ≡ current_id s → w ≡ s.version
    → said ≡ edition id w ∷ [] → was ≡ [] → is ≡ said ++ was → AreEditions s is
made_editions s board n v w id said was is made its version one none list =
    let all : is ≡ edition board.knows.id v ∷ [] =
    list ∙ (ap (λ es. es ++ was) one ∙ (ap (λ es. edition id w ∷ es) none ∙ (ap (λ (i : ℕ). edition i w ∷ []) (its ∙ ap (λ (x : Slotted). current_id x) made)
    ∙ ap (λ (x : Levels). edition board.knows.id x ∷ []) (version ∙ ap (λ (x : Slotted). x.version) made)))) in
    subst (λ (x : Slotted). AreEditions x is) (sym made) (subst (λ (es : List Edition). AreEditions (first_slots board n v) es) (sym all) (first_edition board n v))

-- ---- what leaves them

-- the ends of the board alone have changed, and the id is the same
pub board_editions : (old new : Slotted) (es : List Edition) → new.epochs ≡ old.epochs → current_id new ≡ current_id old → AreEditions old es → AreEditions new es
board_editions old new es same id a = record {
  each = λ slot e h. a.each slot e (ap (λ (xs : List (Option Epoch)). slice_get xs slot) (sym same) ∙ h);
  upto = λ x h. (let le = a.upto x h in omega (arith, le, id));
  one = a.one;
}

noted_id : (b : Bool) (v k w : View) → w ≡ (if b then noted_view v k else v) → w.id ≡ v.id
noted_id true v k w e = ap (λ (x : View). x.id) e
noted_id false v k w e = ap (λ (x : View). x.id) e

-- the publisher may have noted what a reader saw, and nothing else has changed
pub noted_editions : (old new : Slotted) (es : List Edition) (b : Bool) (k : View) → new ≡ record old { board = new.board } → new.board.knows ≡ (if b then noted_view old.board.knows k else old.board.knows)
    → AreEditions old es → AreEditions new es
noted_editions old new es b k rest knows a = board_editions old new es (ap (λ (s : Slotted). s.epochs) rest) (noted_id b old.board.knows k new.board.knows knows) a

-- looks free slots only
pub looked_editions : (old new : Slotted) (es : List Edition) → Looked old new → AreEditions old es → AreEditions new es
looked_editions old new es l a = record {
  each = λ slot e h. elim (l.each slot) [
    | inl same ↦ a.each slot e (sym same ∙ h)
    | inr freed ↦ (let both : Some None ≡ Some (Some e) = sym freed.free ∙ h in cc)
  ];
  upto = λ x h. (let le = a.upto x h in let id = l.id in omega (arith, le, id));
  one = a.one;
}

-- pins change no version
pub pinned_editions : (old new : Slotted) (es : List Edition) (id from to : ℕ) → PinsMove old new id from to → AreEditions old es → AreEditions new es
pinned_editions old new es id from to m a = record {
  each = each;
  upto = λ x h. (let le = a.upto x h in let same = ap (λ (s : Slotted). current_id s) m.is in omega (arith, le, same));
  one = a.one;
}
  where
    after : Option Epoch
    after = Some (record m.epoch { pins = to })

    each : (slot : ℕ) (e : Epoch) → HasEpoch new slot e → Has es (edition e.id e.version)
    each slot e h = (let had : slice_get (slice_set old.epochs m.slot after) slot ≡ Some (Some e) = ap (λ (s : Slotted). slice_get s.epochs slot) (sym m.is) ∙ h in elim (cases_eq slot m.slot) [
      | inl same ↦ (
          let here : slice_get (slice_set old.epochs m.slot after) m.slot ≡ Some (Some e) = subst (λ i. slice_get (slice_set old.epochs m.slot after) i ≡ Some (Some e)) same had in
          let both : Some after ≡ Some (Some e) = sym (set_found old.epochs m.slot after (Some e) here) ∙ here in
          let is : record m.epoch { pins = to } ≡ e = cc in
          subst (λ (x : Epoch). Has es (edition x.id x.version)) is (a.each m.slot m.epoch m.had))
      | inr other ↦ a.each slot e (sym (set_else old.epochs m.slot slot after other) ∙ had)
    ])

-- a version that is published is listed under the next id
pub published_editions : (old new : Slotted) (v : Levels) (es : List Edition) → Published old new v → AreEditions old es → AreEditions new (edition (suc (current_id old)) v ∷ es)
published_editions old new v es p a = record {
  each = each;
  upto = λ x h. elim h [
    | inl e ↦ (let same = ap (λ (y : Edition). y.id) e in let id = p.id in omega (arith, same, id))
    | inr k ↦ (let le = a.upto x k in let id = p.id in omega (arith, le, id))
  ];
  one = λ x y h k e. elim h [
    | inl b ↦ elim k [
      | inl d ↦ sym b ∙ d
      | inr l ↦ (let le = a.upto y l in let same = ap (λ (z : Edition). z.id) b in absurd (omega (arith, le, same, e)))
    ]
    | inr m ↦ elim k [
      | inl d ↦ (let le = a.upto x m in let same = ap (λ (z : Edition). z.id) d in absurd (omega (arith, le, same, e)))
      | inr l ↦ a.one x y m l e
    ]
  ];
}
  where
    mine : Epoch
    mine = record { id = suc (current_id old); version = v; pins = 0 }

    each : (slot : ℕ) (e : Epoch) → HasEpoch new slot e → Has (edition (suc (current_id old)) v ∷ es) (edition e.id e.version)
    each slot e h = (let had : slice_get (slice_set old.epochs p.slot (Some mine)) slot ≡ Some (Some e) = ap (λ (xs : List (Option Epoch)). slice_get xs slot) (sym p.epochs) ∙ h in elim (cases_eq slot p.slot) [
      | inl same ↦ (
          let here : slice_get (slice_set old.epochs p.slot (Some mine)) p.slot ≡ Some (Some e) = subst (λ i. slice_get (slice_set old.epochs p.slot (Some mine)) i ≡ Some (Some e)) same had in
          let both : Some (Some mine) ≡ Some (Some e) = sym (set_found old.epochs p.slot (Some mine) (Some e) here) ∙ here in
          let is : mine ≡ e = cc in
          inl (ap (λ (x : Epoch). edition x.id x.version) is))
      | inr other ↦ inr (a.each slot e (sym (set_else old.epochs p.slot slot (Some mine) other) ∙ had))
    ])

-- the same, where the current version was listed
pub issued_editions : (old new : Slotted) (v w : Levels) (id : ℕ) (said was is : List Edition) → Published old new v → id ≡ suc (current_id old) → w ≡ new.version
    → said ≡ edition id w ∷ [] → is ≡ said ++ was → AreEditions old was → AreEditions new is
issued_editions old new v w id said was is p its version one list a =
    let all : is ≡ edition (suc (current_id old)) v ∷ was = list ∙ (ap (λ es. es ++ was) one ∙ (ap (λ (i : ℕ). edition i w ∷ was) its ∙ ap (λ (x : Levels). edition (suc (current_id old)) x ∷ was) (version ∙ p.version_is))) in
    subst (λ (es : List Edition). AreEditions new es) (sym all) (published_editions old new v was p a)

-- ---- what is known of them

-- the current version is listed
pub current_listed : (s : Slotted) (es : List Edition) → AreSlots s → AreEditions s es → Has es (edition (current_id s) s.version)
current_listed s es slots a = a.each (current_slot s) record { id = current_id s; version = s.version; pins = slots.pins } slots.current

-- what was listed earlier under the id of a version in a slot has its tables
pub listed_before : (s : Slotted) (now old : List Edition) → AreEditions s now → IsLater now old → (x : Edition) → Has old x → (slot : ℕ) (e : Epoch) → HasEpoch s slot e → e.id ≡ x.id → numbers_in e.version ≡ x.tables
listed_before s now old a l x h slot e had id =
    let there : Has now x = subst (λ (es : List Edition). Has es x) (sym l.1) (has_right l.0 old x h) in
    ap (λ (y : Edition). y.tables) (a.one (edition e.id e.version) x (a.each slot e had) there id)
