-- Tables whose indexes are read one after another.
use Rattle.std.proofs.Common.{◌≡◌, ℕ, zero, suc, ◌+◌, ◌<◌, Option, List, [], ◌∷◌, ◌++◌, length}
use Rattle.std.proofs.Common.{get_or, take, drop, map, refl, sym, ◌∙◌, ap, subst, inl, inr}
use Rattle.std.proofs.Common.{append_assoc}
use Rattle.std.proofs.lemmas.List.{map-append, take_more}
use Rattle.std.specs.Prelude.{Result, Ok, Err}
use Rattle.lsm_codec.specs.Entries.{Entry}
use Rattle.lsm_codec.specs.Lists.{Has}
use Rattle.lsm_codec.proofs.CallerLemmas.{has_cases, has_right}
use Rattle.lsm_shelf.specs.Asked.{Asked}
use Rattle.lsm_shelf.specs.declared.shelf_fault.ShelfFault.{ShelfFault}
use Rattle.lsm_table.specs.HeldTable.{entries_in}
use Rattle.lsm_table.specs.OpenTable.{opening_at}
use Rattle.lsm_table.specs.ReadFault.{IsMemory, IsMemoryOrShelf}
use Rattle.lsm_table.specs.Reading.{Fails, settled}
use Rattle.lsm_table.specs.Registry.{Table}
use Rattle.lsm_table.specs.declared.read_fault.ReadFault.{ReadFault}
use Rattle.lsm_table.specs.declared.read_fault.ReadFault.TheVariants as read
use Rattle.lsm_table.specs.declared.table_fault.TableFault.{TableFault}
use Rattle.lsm_table.proofs.CallerLemmas.{memory_only, opening_again}
use Rattle.lsm_version.specs.Versions.{IsSound, Levels, level_in}
use Rattle.lsm_verify.specs.declared.check_fault.CheckFault.{CheckFault}
use Rattle.lsm_verify.specs.declared.check_fault.CheckFault.TheVariants.{Read}
use Rattle.lsm_admission.specs.Indexes.{HasIndex, HaveIndexes, IsIndexFault, IsIndexRefusal}
use Rattle.lsm_admission.specs.Indexes.{IsNoIndex, all_tables}
use Rattle.lsm_admission.proofs.FoundFiles.{around}

-- what was opened has an index
some_entries : (r : Result (List Entry) TableFault) → settled r ≡ Ok tt
    → (es : List Entry) × (r ≡ Ok es)
some_entries (Ok es) e = (es, refl)
some_entries (Err fault) e = absurd (cc e)

pub settled_has : (image : List ℕ) → settled (opening_at image) ≡ Ok tt → HasIndex image
settled_has image e = some_entries (opening_at image) e

pub both_have : (ts us : List Table) → HaveIndexes ts → HaveIndexes us → HaveIndexes (ts ++ us)
both_have ts us a b = λ t h. elim (has_cases ts us t h) [ inl x ↦ a t x | inr y ↦ b t y ]

one_has : (t : Table) → HasIndex t.image → HaveIndexes (t ∷ [])
one_has t i = λ u h. elim h [
  | inl e ↦ subst (λ (x : Table). HasIndex x.image) e i
  | inr n ↦ absurd n
]

pub table_more : (ts : List Table) (i : ℕ) (t : Table) → i < length ts → t ≡ get_or ts i t
    → HaveIndexes (take i ts) → HasIndex t.image → HaveIndexes (take (i + 1) ts)
table_more ts i t lt at these this =
    subst HaveIndexes (ap (λ (x : Table). take i ts ++ x ∷ []) at ∙ sym (take_more ts i t lt))
    (both_have (take i ts) (t ∷ []) these (one_has t this))

pub table_refused : (Refused : Asked → ShelfFault → Type 0) (Honest : Type 0) (ts : List Table)
    (i : ℕ) (t : Table) (e : CheckFault) → i < length ts → t ≡ get_or ts i t
    → (Honest → HaveIndexes (take i ts)) → IsIndexFault Refused Honest t e
    → IsIndexRefusal Refused Honest ts e
table_refused Refused Honest ts i t e lt at these fault =
    (take i ts, t, drop (i + 1) ts, around ts i t lt at, these, fault)

-- ---- level by level

tables_append : (xs ys : List (List Table)) → all_tables (xs ++ ys) ≡ all_tables xs ++ all_tables ys
tables_append [] ys = refl
tables_append (ts ∷ xs) ys = ap (λ (us : List Table). ts ++ us) (tables_append xs ys)
    ∙ sym (append_assoc ts (all_tables xs) (all_tables ys))

-- the tables of the first of these, of one, and of the others
pub tables_around : {X : Type 0} (f : X → List Table) (xs : List X) (i : ℕ) (x : X)
    → i < length xs → x ≡ get_or xs i x
    → all_tables (map f xs)
    ≡ all_tables (map f (take i xs)) ++ (f x ++ all_tables (map f (drop (i + 1) xs)))
tables_around f xs i x lt at =
    ap (λ ys. all_tables (map f ys)) (around xs i x lt at)
    ∙ ap all_tables (map-append f (take i xs) (x ∷ drop (i + 1) xs))
    ∙ tables_append (map f (take i xs)) (f x ∷ map f (drop (i + 1) xs))

pub level_more : {X : Type 0} (f : X → List Table) (xs : List X) (i : ℕ) (x : X)
    → i < length xs → x ≡ get_or xs i x → HaveIndexes (all_tables (map f (take i xs)))
    → HaveIndexes (f x) → HaveIndexes (all_tables (map f (take (i + 1) xs)))
level_more f xs i x lt at these this =
    let more : take (i + 1) xs ≡ take i xs ++ x ∷ [] =
    take_more xs i x lt ∙ ap (λ y. take i xs ++ y ∷ []) (sym at) in
    let nil : all_tables (map f (x ∷ [])) ≡ f x ++ [] = refl in
    subst HaveIndexes (sym (ap (λ ys. all_tables (map f ys)) more
    ∙ ap all_tables (map-append f (take i xs) (x ∷ []))
    ∙ tables_append (map f (take i xs)) (f x ∷ [])))
    (both_have (all_tables (map f (take i xs))) (f x ++ []) these
    (both_have (f x) [] this (λ t h. absurd h)))

pub level_refused : {X : Type 0} (Refused : Asked → ShelfFault → Type 0) (Honest : Type 0)
    (f : X → List Table) (xs : List X) (i : ℕ) (x : X) (e : CheckFault)
    → i < length xs → x ≡ get_or xs i x → (Honest → HaveIndexes (all_tables (map f (take i xs))))
    → IsIndexRefusal Refused Honest (f x) e
    → IsIndexRefusal Refused Honest (all_tables (map f xs)) e
level_refused Refused Honest f xs i x e lt at these (front, t, back, parts, before, fault) =
    let first = all_tables (map f (take i xs)) in
    let rest = all_tables (map f (drop (i + 1) xs)) in (
      first ++ front,
      t,
      back ++ rest,
      tables_around f xs i x lt at
          ∙ ap (λ (us : List Table). first ++ (us ++ rest)) parts
          ∙ ap (λ (us : List Table). first ++ us) (append_assoc front (t ∷ back) rest)
          ∙ sym (append_assoc first front (t ∷ (back ++ rest))),
      λ honest. both_have first front (these honest) (before honest),
      fault,
    )

-- ---- where the version is sound

in_tables : (levels : List (List Table)) (t : Table) → Has (all_tables levels) t
    → (n : ℕ) × Has (level_in levels n) t
in_tables [] t h = absurd h
in_tables (ts ∷ levels) t h = elim (has_cases ts (all_tables levels) t h) [
  | inl here ↦ (zero, here)
  | inr there ↦ (let r = in_tables levels t there in (suc r.0, r.1))
]

pub sound_has : (v : Levels) → IsSound v → HaveIndexes (all_tables v.tables)
sound_has v sound = λ t h.
    let at = in_tables v.tables t h in
    let table = (sound.tables at.0 t at.1).table in
    (table.index, opening_again t.image (entries_in t.image) table)

only_memory : (fault : TableFault) (image : List ℕ) (es : List Entry) → opening_at image ≡ Ok es
    → Fails fault (opening_at image) → IsMemory fault
only_memory fault image es is fails =
    memory_only fault es (subst (λ (r : Result (List Entry) TableFault). Fails fault r) is fails)

of_table : (Honest : Type 0) (t : Table) (fault : ReadFault) → Honest → HasIndex t.image
    → IsNoIndex Honest t.image fault → IsMemoryOrShelf fault
of_table Honest t (read.Shelf fault) honest has none = tt
of_table Honest t (read.Table fault) honest has none =
    only_memory fault t.image has.0 has.1 (none honest)

pub sound_refused : (Refused : Asked → ShelfFault → Type 0) (Honest : Type 0) (v : Levels)
    (number : Option ℕ) (fault : ReadFault) → Honest → IsSound v
    → IsIndexRefusal Refused Honest (all_tables v.tables) (Read number fault)
    → IsMemoryOrShelf fault
sound_refused Refused Honest v number fault honest sound (front, t, back, parts, before, why) =
    of_table Honest t fault honest (sound_has v sound t
    (subst (λ (ts : List Table). Has ts t) (sym parts) (has_right front (t ∷ back) t (inl refl))))
    why.2
