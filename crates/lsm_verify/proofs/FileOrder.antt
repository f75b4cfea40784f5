-- Tables that come in the order of a level stay in it as they are put into place.
use Rattle.std.proofs.Common.{◌≡◌, ℕ, Bool, true, false, not, List, [], ◌∷◌, ◌++◌, Less, refl, sym, ◌∙◌, ap, subst, append_assoc, append-nil, inl, inr}
use Rattle.std.specs.Ordering.{is_lt}
use Rattle.std.specs.List.{filter, AllByRecursion}
use Rattle.std.specs.List.Sorted.{IsStrictlySortedBy}
use Rattle.lsm_codec.specs.Lists.{Has}
use Rattle.lsm_codec.proofs.CallerLemmas.{has_cases}
use Rattle.lsm_table.specs.Registry.{Table}
use Rattle.lsm_manifest.specs.FileOrder.{TableFile, file_cmp, place_cmp}
use Rattle.lsm_version.specs.Changes.{placed_in, placed_all}
use Rattle.lsm_verify.specs.CheckedFiles.{IsFileOf}
use Rattle.lsm_verify.specs.Loading.{AreFilesOf, AreLevelsOf, AreInFileOrder, placed_levels}
use Rattle.lsm_version.specs.Versions.{stands_before}
use Rattle.lsm_version.proofs.CallerLemmas.{EachAfter, tables_rank}

none_kept : (p : Table → Bool) (us : List Table) → ((u : Table) → Has us u → p u ≡ false) → filter p us ≡ []
none_kept p [] none = refl
none_kept p (u ∷ us) none = (let here : p u ≡ false = none u (inl refl) in rw here (none_kept p us (λ x h. none x (inr h))))

all_kept : (p : Table → Bool) (us : List Table) → ((u : Table) → Has us u → p u ≡ false) → filter (λ u. not (p u)) us ≡ us
all_kept p [] none = refl
all_kept p (u ∷ us) none = (let here : p u ≡ false = none u (inl refl) in rw here (ap (λ (xs : List Table). u ∷ xs) (all_kept p us (λ x h. none x (inr h)))))

placed_last : (t : Table) (us : List Table) → ((u : Table) → Has us u → stands_before t u ≡ false) → placed_in t us ≡ us ++ t ∷ []
unfolding placed_in
placed_last t us none =
    ap (λ (xs : List Table). xs ++ t ∷ filter (λ u. stands_before t u) us) (all_kept (λ u. stands_before t u) us none)
    ∙ ap (λ (xs : List Table). us ++ t ∷ xs) (none_kept (λ u. stands_before t u) us none)

placed_in_turn : (ts us : List Table) → EachAfter ts → ((u t : Table) → Has us u → Has ts t → stands_before t u ≡ false) → placed_all ts us ≡ us ++ ts
placed_in_turn [] us each across = sym (append-nil us)
placed_in_turn (t ∷ ts) us each across =
    ap (λ (xs : List Table). placed_all ts xs) (placed_last t us (λ u h. across u t h (inl refl)))
    ∙ placed_in_turn ts (us ++ t ∷ []) each.1 (λ u s hu hs. elim (has_cases us (t ∷ []) u hu) [
      | inl l ↦ across u s l (inr hs)
      | inr r ↦ elim r [ inl e ↦ subst (λ (x : Table). stands_before s x ≡ false) e (each.0 s hs) | inr n ↦ absurd n ]
    ])
    ∙ append_assoc us (t ∷ []) ts

before_of : (last : ℕ) (f g : TableFile) (t u : Table) → IsFileOf last f t → IsFileOf last g u → file_cmp f g ≡ Less → stands_before t u ≡ true
unfolding stands_before
before_of last f g t u i j less =
    ap (λ (b : List ℕ). is_lt (place_cmp b t.number u.smallest u.number)) i.smallest
    ∙ ap (λ (n : ℕ). is_lt (place_cmp f.smallest n u.smallest u.number)) i.number
    ∙ ap (λ (b : List ℕ). is_lt (place_cmp f.smallest f.number b u.number)) j.smallest
    ∙ ap (λ (n : ℕ). is_lt (place_cmp f.smallest f.number g.smallest n)) j.number
    ∙ ap is_lt less

later : (last : ℕ) (f : TableFile) (t : Table) (files : List TableFile) (ts : List Table) → IsFileOf last f t → AreFilesOf last files ts → AllByRecursion (λ g. file_cmp f g ≡ Less) files
    → (u : Table) → Has ts u → stands_before u t ≡ false
later last f t [] [] i a less u h = absurd h
later last f t [] (x ∷ ts) i a less u h = absurd a
later last f t (g ∷ files) [] i a less u h = absurd h
later last f t (g ∷ files) (x ∷ ts) i a less u (inl e) = tables_rank.one_way t u (subst (λ (y : Table). stands_before t y ≡ true) e (before_of last f g t x i a.0 less.0))
later last f t (g ∷ files) (x ∷ ts) i a less u (inr h) = later last f t files ts i a.1 less.1 u h

after_each : (last : ℕ) (files : List TableFile) (ts : List Table) → AreFilesOf last files ts → IsStrictlySortedBy file_cmp files → EachAfter ts
unfolding IsStrictlySortedBy
after_each last [] [] a s = tt
after_each last [] (t ∷ ts) a s = absurd a
after_each last (f ∷ files) [] a s = absurd a
after_each last (f ∷ files) (t ∷ ts) a s = (λ u h. later last f t files ts a.0 a.1 s.0 u h, after_each last files ts a.1 s.1)

pub placed_as_read : (last : ℕ) (shape : List (List TableFile)) (read : List (List Table)) → AreLevelsOf last shape read → AreInFileOrder shape → placed_levels read ≡ read
placed_as_read last [] [] a o = refl
placed_as_read last [] (ts ∷ read) a o = absurd a
placed_as_read last (files ∷ shape) [] a o = absurd a
placed_as_read last (files ∷ shape) (ts ∷ read) a o =
    ap (λ (us : List Table). us ∷ placed_levels read) (placed_in_turn ts [] (after_each last files ts a.0 o.0) (λ u t h k. absurd h))
    ∙ ap (λ (ls : List (List Table)). ts ∷ ls) (placed_as_read last shape read a.1 o.1)
