-- A state of a board: version 0 was pinned in slot 0, and then version 1 became current in slot 1.
use Rattle.std.proofs.Common.{◌≡◌, ℕ, zero, suc, ◌+◌, ◌*◌, ◌^◌, ◌≤◌, Some, None, List, [], ◌∷◌, eqb, get_or, true, false, cond, refl, subst, arith}
use Rattle.std.proofs.lemmas.Option.{none-some, same_Some}
use Rattle.std.specs.Prelude.{slice_get, sum_by}
use Rattle.lsm_pins.specs.declared.view.View.{View}
use Rattle.lsm_pins.specs.declared.slot_record.SlotRecord.{SlotRecord}
use Rattle.lsm_pins.specs.Head.{head_of}
use Rattle.lsm_pins.specs.SlotRecord.{IsInUse, first_records, slot_record, unused}
use Rattle.lsm_pins.specs.Rule.{BoardState, Fits, IsBounded, IsKeptBy, KnowsPin}
use Rattle.lsm_pins.specs.View.{held_at, start_of}
use Rattle.lsm_pins.specs.Laws.{APinOutlivesItsVersion, SomeState}

abbrev records : List SlotRecord
records = slot_record (Some 0) 1 ∷ slot_record (Some 1) 0 ∷ unused ∷ []

abbrev words : List ℕ
words = head_of 1 1 0 ∷ 0 ∷ 0 ∷ 0 ∷ []

abbrev publisher : View
publisher = record {
  live = true;
  publishes = true;
  slots = 3;
  parts = 61;
  id = 1;
  slot = 1;
  count = 0;
  held = None;
  told_id = 1;
  records = records;
  note_id = 0;
  note_slot = 0;
  looks = [];
  found = 1;
}

abbrev reader : View
reader = record {
  live = true;
  publishes = false;
  slots = 3;
  parts = 1;
  id = 0;
  slot = 0;
  count = 1;
  held = Some (0, 0);
  told_id = 0;
  records = first_records 3 0;
  note_id = 0;
  note_slot = 0;
  looks = [];
  found = 0;
}

abbrev views : List View
views = publisher ∷ reader ∷ []

abbrev b : BoardState
b = record { id = 1; records = records; slot_of = λ i. i; seat = 0 }

each_record : (P : ℕ → SlotRecord → Type 0) → P 0 (slot_record (Some 0) 1) → P 1 (slot_record (Some 1) 0) → P 2 unused
    → (s : ℕ) (r : SlotRecord) → slice_get records s ≡ Some r → P s r
each_record P first second third zero r e = subst (P 0) (same_Some (slot_record (Some 0) 1) r e) first
each_record P first second third (suc zero) r e = subst (P 1) (same_Some (slot_record (Some 1) 0) r e) second
each_record P first second third (suc (suc zero)) r e = subst (P 2) (same_Some unused r e) third
each_record P first second third (suc (suc (suc s))) r e = absurd (none-some r e)

each_view : (P : ℕ → View → Type 0) → P 0 publisher → P 1 reader → (y : ℕ) (v : View) → slice_get views y ≡ Some v → P y v
each_view P first second zero v e = subst (P 0) (same_Some publisher v e) first
each_view P first second (suc zero) v e = subst (P 1) (same_Some reader v e) second
each_view P first second (suc (suc y)) v e = absurd (none-some v e)

-- the reader's pin is the only one
only_pin : (P : ℕ × ℕ → Type 0) → P (0, 0) → (i s : ℕ) → reader.held ≡ Some (i, s) → P (i, s)
only_pin P first i s e = subst P (same_Some (0, 0) (i, s) e) first

publisher_fits : Fits b 0 publisher
publisher_fits = record {
  slots = refl;
  seen_slot = refl;
  noted = omega arith;
  noted_slot = refl;
  told = omega arith;
  told_current = record { total = 0; is = refl };
  holds = λ i s e. absurd (cc);
  publishes = λ _. (refl, refl, refl, refl);
}

reader_fits : Fits b 1 reader
reader_fits = record {
  slots = refl;
  seen_slot = refl;
  noted = omega arith;
  noted_slot = refl;
  told = omega arith;
  told_current = record { total = 0; is = refl };
  holds = only_pin (λ pin. (pin.0 ≤ 1) × IsInUse records pin.1 pin.0) (omega arith, record { total = 1; is = refl });
  publishes = λ e. absurd (cc);
}

knows : (x : ℕ) (c : View) → slice_get views x ≡ Some c → KnowsPin c reader
knows = each_view (λ _ c. KnowsPin c reader)
    (record { names = λ i s e le. only_pin (λ pin. IsInUse records pin.1 pin.0) (record { total = 1; is = refl }) i s e })
    (record { names = λ i s e le. only_pin (λ pin. IsInUse (first_records 3 0) pin.1 pin.0) (record { total = 0; is = refl }) i s e })

kept : IsKeptBy b words views
kept = record {
  width = refl;
  few_slots = omega arith;
  head = refl;
  ids = omega arith;
  current_is = record { total = 0; is = refl };
  few_parts = omega arith;
  balance = each_record (λ s r. r.total + cond (eqb s 1) 0 0 ≡ get_or words (suc s) 0 + sum_by (held_at s) views) refl refl refl;
  bounded = each_record (λ s r. r.total ≤ 1 * 2 ^ 30) (omega arith) (omega arith) (omega arith);
  free = each_record (λ s r. r.id ≡ None → sum_by (held_at s) views ≡ 0) (λ e. absurd (cc)) (λ e. absurd (cc)) (λ _. refl);
  small = each_view (λ _ v. IsBounded 1 v) (record { few = omega arith; seen = omega arith; holder = λ i s e. refl }) (record { few = omega arith; seen = omega arith; holder = λ i s e. refl });
  fits = each_view (λ y v. v.live ≡ true → Fits b y v) (λ _. publisher_fits) (λ _. reader_fits);
  known = λ x y c v ex ey lc lv. each_view (λ _ u. KnowsPin c u) (record { names = λ i s e le. absurd (cc) }) (knows x c ex) y v ey;
}

abbrev state : SomeState (start_of 3 0)
state = record {
  state = record { words = words; homes = []; views = views };
  kept = (b, kept);
  view = publisher;
  publisher = record { seat = 0; at = refl; live = refl; publishes = refl };
  slots_are = refl;
  begun = omega arith;
}

pub outlives : APinOutlivesItsVersion
outlives = (start_of 3 0, state, 1, 0, 0, reader, refl, refl, refl, λ (e : 0 ≡ 1). absurd (omega arith))
