-- The id in each slot, and which slots are free, by the publisher's records.
use Rattle.std.proofs.Common.{◌≡◌, ◌≢◌, ℕ, Bool, true, false, true≢false, cond, ◌+◌, ◌-◌, ◌<◌, Option, Some, None, List, ◌∷◌, length, replicate, set, refl, sym, ap, ◌∙◌, zero, suc, arith}
use Rattle.std.proofs.Math.ListN.{get_or-map}
use Rattle.std.proofs.Math.Seq.{map-set_same}
use Rattle.std.proofs.lemmas.List.{length-map, map-set}
use Rattle.std.proofs.lemmas.Option.{get_or_from_slice_get, slice_get-map, slice_get_within}
use Rattle.std.specs.Prelude.{slice_get, option_map, IsTrue}
use mathlib.Core.Logic.{dite}
use native.Mathlib.Decide.{ℕ_discrete}
use Rattle.lsm_pins.specs.declared.slot_record.SlotRecord.{SlotRecord}
use Rattle.lsm_pins.specs.SlotRecord.{IsInUse, first_records, freed_records, ids_of, published_records, record_at, unused}
use Rattle.lsm_pins.specs.declared.view.View.{View}
use Rattle.lsm_pins.specs.View.{IsFree, is_unheld, looked_view, published_view, slot_ids}
use Rattle.lsm_pins.proofs.ListLemmas.{set_here, set_else}

abbrev id_in_record : SlotRecord → Option ℕ
id_in_record r = r.id

pub ids-length : (records : List SlotRecord) → length (ids_of records) ≡ length records
ids-length records = length-map records id_in_record

ids-unused : (n : ℕ) → ids_of (replicate n unused) ≡ replicate n None
ids-unused zero = refl
ids-unused (suc n) = ap (λ l. None ∷ l) (ids-unused n)

pub ids-first : (slots id : ℕ) → ids_of (first_records slots id) ≡ Some id ∷ replicate (slots - 1) None
ids-first slots id = ap (λ l. Some id ∷ l) (ids-unused (slots - 1))

pub ids-freed : (records : List SlotRecord) (s : ℕ) → ids_of (freed_records records s) ≡ set (ids_of records) s None
ids-freed records s = map-set id_in_record records s (record (record_at records s) { id = None })

pub ids-published : (records : List SlotRecord) (old count new id : ℕ) → ids_of (published_records records old count new id) ≡ set (ids_of records) new (Some id)
ids-published records old count new id =
    let retired : SlotRecord = record (record_at records old) { total = (record_at records old).total + count } in
    map-set id_in_record (set records old retired) new (record (record_at records new) { id = Some id })
    ∙ ap (λ l. set l new (Some id)) (map-set_same id_in_record records old retired unused refl)

-- a slot in use has its id
pub in_use-has_id : (records : List SlotRecord) (s i : ℕ) → IsInUse records s i → slice_get (ids_of records) s ≡ Some (Some i)
in_use-has_id records s i in_use = slice_get-map id_in_record records s ∙ ap (option_map id_in_record) in_use.is

-- a slot that is free has a record with no id
pub free-record : (records : List SlotRecord) (s : ℕ) → slice_get (ids_of records) s ≡ Some None → (s < length records) × ((record_at records s).id ≡ None)
free-record records s free =
    let within = slice_get_within (ids_of records) s None free in
    let same = ids-length records in
    (omega arith, sym (get_or-map id_in_record records s unused) ∙ get_or_from_slice_get (ids_of records) s None None free)

-- a free slot stays free where another one turns free
pub free-stays : (ids : List (Option ℕ)) (t s : ℕ) → slice_get ids s ≡ Some None → slice_get (set ids t None) s ≡ Some None
free-stays ids t s free = dite (ℕ_discrete s t)
    (λ same. ap (λ k. slice_get (set ids k None) s) (sym same) ∙ set_here ids s None (slice_get_within ids s None free))
    (λ other. set_else ids t s None other ∙ free)

-- what a look leaves in the slots
pub slot_ids-looked : (v w : View) (t n : ℕ) (b : Bool) → w ≡ looked_view v t n → b ≡ is_unheld v t n → slot_ids w ≡ cond b (set (slot_ids v) t None) (slot_ids v)
slot_ids-looked v w t n b looked unheld =
    ap slot_ids looked ∙ chosen (is_unheld v t n) ∙ ap (λ (c : Bool). cond c (set (slot_ids v) t None) (slot_ids v)) (sym unheld)
  where
    chosen : (c : Bool) → ids_of (cond c (freed_records v.records t) v.records) ≡ cond c (set (slot_ids v) t None) (slot_ids v)
    chosen true = ids-freed v.records t
    chosen false = refl

-- the slots where the look found no pin are free
pub free-looked : (v w : View) (t : ℕ) (b : Bool) → t < length (slot_ids v) → slot_ids w ≡ cond b (set (slot_ids v) t None) (slot_ids v) → IsTrue b → IsFree w t
free-looked v w t true below is found = ap (λ l. slice_get l t) is ∙ set_here (slot_ids v) t None below
free-looked v w t false below is untrue = absurd (true≢false (sym untrue))

pub stays-looked : (v w : View) (t s : ℕ) (b : Bool) → slot_ids w ≡ cond b (set (slot_ids v) t None) (slot_ids v) → IsFree v s → IsFree w s
stays-looked v w t s true is free = ap (λ l. slice_get l s) is ∙ free-stays (slot_ids v) t s free
stays-looked v w t s false is free = ap (λ l. slice_get l s) is ∙ free

-- what a publication leaves in the slots
pub slot_ids-published : (v w : View) (t n : ℕ) → w ≡ published_view v t n → slot_ids w ≡ set (slot_ids v) t (Some (v.id + 1))
slot_ids-published v w t n published = ap slot_ids published ∙ ids-published v.records v.slot n t (v.id + 1)

pub stays-published : (v w : View) (t s : ℕ) (x : Option ℕ) → s ≢ t → slot_ids w ≡ set (slot_ids v) t x → IsFree v s → IsFree w s
stays-published v w t s x other is free = ap (λ l. slice_get l s) is ∙ set_else (slot_ids v) t s x other ∙ free
