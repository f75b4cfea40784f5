-- Tables that were found for the files of a shape stand in the order of the shape's files, and are
-- those that it names.
use Rattle.std.proofs.Common.{◌≡◌, ℕ, suc, ◌<◌, ◌≤◌, Bool, true, false, not, List, [], ◌∷◌, ◌++◌}
use Rattle.std.proofs.Common.{Less, get_or, length, map, refl, sym, ◌∙◌, ap, subst, append_assoc}
use Rattle.std.proofs.Common.{append-nil, inl, inr, arith}
use Rattle.std.specs.Ordering.{is_lt}
use Rattle.std.specs.List.{filter, AllByRecursion}
use Rattle.std.specs.List.Sorted.{IsStrictlySortedBy}
use Rattle.lsm_codec.specs.Lists.{Has}
use Rattle.lsm_codec.proofs.CallerLemmas.{has_cases}
use Rattle.lsm_table.specs.Registry.{Table, size_of}
use Rattle.lsm_manifest.specs.FileOrder.{TableFile, file_cmp, place_cmp}
use Rattle.lsm_manifest.specs.Shape.{Form}
use Rattle.lsm_verify.specs.Loading.{AreInFileOrder, placed_levels}
use Rattle.lsm_version.specs.Changes.{placed_in, placed_all}
use Rattle.lsm_version.specs.FileNumbers.{AreDistinct, numbers_of}
use Rattle.lsm_version.specs.Versions.{Levels, stands_before}
use Rattle.lsm_version.proofs.CallerLemmas.{EachAfter, tables_rank}
use Rattle.lsm_journal.specs.HeldManifest.{HeldManifest}
use Rattle.lsm_journal.specs.Finding.{IsNamedBy}
use Rattle.lsm_journal.specs.Recorded.{IsRecorded, meta_of}
use Rattle.lsm_journal.specs.Recovering.{IsRecovered}
use Rattle.lsm_journal.specs.Writing.{metas_of}
use Rattle.lsm_admission.specs.FoundTables.{IsFoundFor, AreFoundFor, AreLevelsFound, IsFoundFrom}

-- ---- a table that comes last is put last

none_kept : (p : Table → Bool) (us : List Table) → ((u : Table) → Has us u → p u ≡ false)
    → filter p us ≡ []
none_kept p [] none = refl
none_kept p (u ∷ us) none = (let here : p u ≡ false = none u (inl refl) in
    rw here (none_kept p us (λ x h. none x (inr h))))

all_kept : (p : Table → Bool) (us : List Table) → ((u : Table) → Has us u → p u ≡ false)
    → filter (λ u. not (p u)) us ≡ us
all_kept p [] none = refl
all_kept p (u ∷ us) none = (let here : p u ≡ false = none u (inl refl) in
    rw here (ap (λ (xs : List Table). u ∷ xs) (all_kept p us (λ x h. none x (inr h)))))

placed_last : (t : Table) (us : List Table)
    → ((u : Table) → Has us u → stands_before t u ≡ false) → placed_in t us ≡ us ++ t ∷ []
unfolding placed_in
placed_last t us none =
    ap (λ (xs : List Table). xs ++ t ∷ filter (λ u. stands_before t u) us)
    (all_kept (λ u. stands_before t u) us none)
    ∙ ap (λ (xs : List Table). us ++ t ∷ xs) (none_kept (λ u. stands_before t u) us none)

placed_in_turn : (ts us : List Table) → EachAfter ts
    → ((u t : Table) → Has us u → Has ts t → stands_before t u ≡ false)
    → placed_all ts us ≡ us ++ ts
placed_in_turn [] us each across = sym (append-nil us)
placed_in_turn (t ∷ ts) us each across =
    ap (λ (xs : List Table). placed_all ts xs) (placed_last t us (λ u h. across u t h (inl refl)))
    ∙ placed_in_turn ts (us ++ t ∷ []) each.1
    (λ u s hu hs. elim (has_cases us (t ∷ []) u hu) [
      | inl l ↦ across u s l (inr hs)
      | inr r ↦ elim r [
        | inl e ↦ subst (λ (x : Table). stands_before s x ≡ false) e (each.0 s hs)
        | inr n ↦ absurd n
      ]
    ])
    ∙ append_assoc us (t ∷ []) ts

-- ---- the order of the files is that of the tables

before_of : (Keeps : ℕ → List ℕ → Type 0) (f g : TableFile) (t u : Table) → IsFoundFor Keeps f t
    → IsFoundFor Keeps g u → file_cmp f g ≡ Less → stands_before t u ≡ true
unfolding stands_before
before_of Keeps f g t u i j less =
    ap (λ (b : List ℕ). is_lt (place_cmp b t.number u.smallest u.number)) i.smallest
    ∙ ap (λ (n : ℕ). is_lt (place_cmp f.smallest n u.smallest u.number)) i.number
    ∙ ap (λ (b : List ℕ). is_lt (place_cmp f.smallest f.number b u.number)) j.smallest
    ∙ ap (λ (n : ℕ). is_lt (place_cmp f.smallest f.number g.smallest n)) j.number
    ∙ ap is_lt less

later : (Keeps : ℕ → List ℕ → Type 0) (f : TableFile) (t : Table) (files : List TableFile)
    (ts : List Table) → IsFoundFor Keeps f t → AreFoundFor Keeps files ts
    → AllByRecursion (λ g. file_cmp f g ≡ Less) files
    → (u : Table) → Has ts u → stands_before u t ≡ false
later Keeps f t [] [] i a less u h = absurd h
later Keeps f t [] (x ∷ ts) i a less u h = absurd a
later Keeps f t (g ∷ files) [] i a less u h = absurd h
later Keeps f t (g ∷ files) (x ∷ ts) i a less u (inl e) = tables_rank.one_way t u
    (subst (λ (y : Table). stands_before t y ≡ true) e (before_of Keeps f g t x i a.0 less.0))
later Keeps f t (g ∷ files) (x ∷ ts) i a less u (inr h) =
    later Keeps f t files ts i a.1 less.1 u h

after_each : (Keeps : ℕ → List ℕ → Type 0) (files : List TableFile) (ts : List Table)
    → AreFoundFor Keeps files ts → IsStrictlySortedBy file_cmp files → EachAfter ts
unfolding IsStrictlySortedBy
after_each Keeps [] [] a s = tt
after_each Keeps [] (t ∷ ts) a s = absurd a
after_each Keeps (f ∷ files) [] a s = absurd a
after_each Keeps (f ∷ files) (t ∷ ts) a s =
    (λ u h. later Keeps f t files ts a.0 a.1 s.0 u h, after_each Keeps files ts a.1 s.1)

placed_as_found : (Keeps : ℕ → List ℕ → Type 0) (shape : List (List TableFile))
    (found : List (List Table)) → AreLevelsFound Keeps shape found → AreInFileOrder shape
    → placed_levels found ≡ found
placed_as_found Keeps [] [] a o = refl
placed_as_found Keeps [] (ts ∷ found) a o = absurd a
placed_as_found Keeps (files ∷ shape) [] a o = absurd a
placed_as_found Keeps (files ∷ shape) (ts ∷ found) a o =
    ap (λ (us : List Table). us ∷ placed_levels found)
    (placed_in_turn ts [] (after_each Keeps files ts a.0 o.0) (λ u t h k. absurd h))
    ∙ ap (λ (ls : List (List Table)). ts ∷ ls) (placed_as_found Keeps shape found a.1 o.1)

-- ---- they are what the shape names

meta_is : (Keeps : ℕ → List ℕ → Type 0) (file : TableFile) (t : Table) → IsFoundFor Keeps file t
    → meta_of t ≡ file
meta_is Keeps file t is =
    ap (λ (n : ℕ). let m : TableFile =
    record { number = n; size = size_of t; smallest = t.smallest; largest = t.largest } in m)
    is.number
    ∙ ap (λ (n : ℕ). let m : TableFile =
    record { number = file.number; size = n; smallest = t.smallest; largest = t.largest } in m)
    is.size
    ∙ ap (λ (k : List ℕ). let m : TableFile =
    record { number = file.number; size = file.size; smallest = k; largest = t.largest } in m)
    is.smallest
    ∙ ap (λ (k : List ℕ). let m : TableFile =
    record { number = file.number; size = file.size; smallest = file.smallest; largest = k } in m)
    is.largest

metas_are : (Keeps : ℕ → List ℕ → Type 0) (files : List TableFile) (ts : List Table)
    → AreFoundFor Keeps files ts → map meta_of ts ≡ files
metas_are Keeps [] [] is = refl
metas_are Keeps [] (t ∷ ts) is = absurd is
metas_are Keeps (file ∷ files) [] is = absurd is
metas_are Keeps (file ∷ files) (t ∷ ts) is =
    let a = meta_is Keeps file t is.0 in let b = metas_are Keeps files ts is.1 in cc

levels_are : (Keeps : ℕ → List ℕ → Type 0) (levels : List (List TableFile))
    (found : List (List Table)) → AreLevelsFound Keeps levels found → metas_of found ≡ levels
levels_are Keeps [] [] is = refl
levels_are Keeps [] (ts ∷ found) is = absurd is
levels_are Keeps (files ∷ levels) [] is = absurd is
levels_are Keeps (files ∷ levels) (ts ∷ found) is =
    let a = metas_are Keeps files ts is.0 in let b = levels_are Keeps levels found is.1 in cc

in_order : (levels : List (List TableFile))
    → ((i : ℕ) → i < length levels → IsStrictlySortedBy file_cmp (get_or levels i []))
    → AreInFileOrder levels
in_order [] each = tt
in_order (files ∷ levels) each =
    (each 0 (omega arith), in_order levels (λ i lt. each (suc i) (omega (arith, lt))))

pub named_by : (Keeps : ℕ → List ℕ → Type 0) (rest : ℕ) (h : HeldManifest) (shape : Form)
    (v : Levels) → IsRecovered h shape rest → IsFoundFrom Keeps shape v → IsNamedBy shape v
named_by Keeps rest h shape v r f =
    let p = r.replayed in
    let found = f.tables.found.found in
    let order = in_order shape.levels
    (λ i lt. let low : i ≤ 6 = (let seven = p.seven in omega arith) in (p.levels i low).ordered) in
    record {
      files = ap metas_of (f.tables.found.placed
          ∙ placed_as_found Keeps shape.levels found f.tables.found.are order)
          ∙ levels_are Keeps shape.levels found f.tables.found.are;
      pointers = f.pointers;
      last = f.last;
    }

-- a manifest that was read records each version whose tables its shape names (a law of journals)
abbrev pub NamedIsRecorded : Type 0
NamedIsRecorded = (rest : ℕ) (h : HeldManifest) (shape : Form) (v : Levels)
    → IsRecovered h shape rest → IsNamedBy shape v → AreDistinct (numbers_of shape.levels)
    → IsRecorded rest h v shape.next

pub found_recorded : (Keeps : ℕ → List ℕ → Type 0) → NamedIsRecorded → (rest : ℕ)
    (h : HeldManifest) (shape : Form) (v : Levels) → IsRecovered h shape rest
    → IsFoundFrom Keeps shape v → IsRecorded rest h v shape.next
found_recorded Keeps law rest h shape v r f =
    law rest h shape v r (named_by Keeps rest h shape v r f) f.tables.numbers
