-- The edit of a change turns the version into the changed one.
use Rattle.std.proofs.Common.{◌≡◌, ◌≢◌, ℕ, zero, suc, ◌<◌, ◌==◌, ◌↔◌, Bool, true, false, cond, List, [], ◌∷◌, Option, Some, None, get_or, length, map, refl, sym, ◌∙◌, ap, subst, inl, inr, ◌⊎◌, arith}
use Rattle.std.specs.Prelude.{slice_set, IfSome}
use Rattle.std.specs.Option.{option_or}
use Rattle.std.proofs.lemmas.Bool.{eqb-true, eqb-false}
use Rattle.std.proofs.lemmas.List.{get_or-set_other, get_or-set_same, length-set}
use Rattle.lsm_codec.specs.Lists.{Has}
use Rattle.lsm_codec.proofs.CallerLemmas.{all_at}
use Rattle.lsm_table.specs.Registry.{Table}
use Rattle.lsm_manifest.specs.EditFit.{Change}
use Rattle.lsm_manifest.specs.FileOrder.{TableFile}
use Rattle.lsm_manifest.specs.Last.{last_by}
use Rattle.lsm_manifest.specs.Replay.{AreApart, AreFresh, Deletion, FileAt, deletion_of, pointer_in}
use Rattle.lsm_manifest.specs.WholeEdit.{placed_at}
use Rattle.lsm_manifest.proofs.CallerLemmas.{fresh_new, one_file_a_number, pointer_in-none}
use Rattle.lsm_version.specs.Changes.{changed, levels_after, with_pointer}
use Rattle.lsm_version.specs.FileNumbers.{AreDistinct}
use Rattle.lsm_version.specs.Versions.{Levels, level_in}
use Rattle.lsm_journal.specs.HeldManifest.{HeldManifest}
use Rattle.lsm_journal.specs.Difference.{Difference, FitsComing, FitsDifference, FitsPlace, Suits, changed_by, deleted_numbers}
use Rattle.lsm_journal.specs.Recorded.{HasOwnNumbers, IsFileAt, IsStanding, meta_of}
use Rattle.lsm_journal.specs.Writing.{change_edit, placed, pointers_of}
use Rattle.lsm_journal.proofs.Counting.{after_distinct, front_alone, length-levels_after, tail_distinct}
use Rattle.lsm_journal.proofs.Standing.{Turns}

-- what a change says of tables (a law of versions)
abbrev pub TablesChange : Type 0
TablesChange = (deleted : List ℕ) (added : List (ℕ × Table)) (pointer : Option (ℕ × List ℕ)) (last : ℕ) (v : Levels) (n : ℕ) (t : Table) → n < length v.tables
    → (Has (level_in (changed deleted added pointer last v).tables n) t ↔ ((Has (level_in v.tables n) t × (Has deleted t.number → ⊥)) ⊎ Has added (n, t)))

-- ---- lists

pub inside : (levels : List (List Table)) (n : ℕ) (t : Table) → Has (level_in levels n) t → n < length levels
inside [] n t h = absurd h
inside (ts ∷ levels) zero t h = omega arith
inside (ts ∷ levels) (suc n) t h = let lt = inside levels n t h in omega arith

pub map_has : {X Y : Type 0} (f : X → Y) (xs : List X) (y : Y) → Has (map f xs) y → (x : X) × Has xs x × (f x ≡ y)
map_has f [] y h = absurd h
map_has f (x ∷ xs) y (inl e) = (x, inl refl, e)
map_has f (x ∷ xs) y (inr h) = let r = map_has f xs y h in (r.0, inr r.1, r.2)

pub has_map : {X Y : Type 0} (f : X → Y) (xs : List X) (x : X) → Has xs x → Has (map f xs) (f x)
has_map f [] x h = absurd h
has_map f (y ∷ xs) x (inl e) = inl (ap f e)
has_map f (y ∷ xs) x (inr h) = inr (has_map f xs x h)

-- files of different numbers are apart
pub apart_from : (xs : List FileAt) → AreDistinct (map (λ a. a.file.number) xs) → AreApart xs
apart_from [] d = tt
apart_from (a ∷ xs) d = (
  λ b h e. front_alone a.file.number (map (λ x. x.file.number) xs) d (subst (λ (n : ℕ). Has (map (λ (x : FileAt). x.file.number) xs) n) (sym e) (has_map (λ (x : FileAt). x.file.number) xs b h)),
  apart_from xs (tail_distinct a.file.number (map (λ x. x.file.number) xs) d),
)

-- ---- the changed version's parts

pub same_length : (d : Difference) (v : Levels) → length (changed_by d v).tables ≡ length v.tables
unfolding changed
same_length d v = length-levels_after (deleted_numbers d) d.added 0 v.tables

pub pointers_are : (d : Difference) (v : Levels) → (changed_by d v).pointers ≡ with_pointer d.pointer v.pointers
unfolding changed
pointers_are d v = refl

pub tables_are : (d : Difference) (v : Levels) → (changed_by d v).tables ≡ levels_after (deleted_numbers d) d.added 0 v.tables
unfolding changed
tables_are d v = refl

pub last_is : (d : Difference) (v : Levels) → (changed_by d v).last ≡ d.last
unfolding changed
last_is d v = refl

length-with_pointer : (pointer : Option (ℕ × List ℕ)) (pointers : List (Option (List ℕ))) → length (with_pointer pointer pointers) ≡ length pointers
length-with_pointer None pointers = refl
length-with_pointer (Some p) pointers = length-set pointers p.0 (Some p.1)

pub changed_own : (d : Difference) (v : Levels) → HasOwnNumbers v → Suits d v → HasOwnNumbers (changed_by d v)
changed_own d v own s = record {
  seven = same_length d v ∙ own.seven;
  seven_pointers = ap length (pointers_are d v) ∙ length-with_pointer d.pointer v.pointers ∙ own.seven_pointers;
  numbers = subst (λ (tables : List (List Table)). AreDistinct (map (λ F. F.number) (Rattle.lsm_version.specs.Versions.files_from 0 tables))) (sym (tables_are d v))
      (after_distinct (deleted_numbers d) d.added v.tables own.numbers s.apart s.fresh);
}

-- ---- pointers

-- the new pointer of a level is the one that the edit names, or the one before
own_pointer : (level : ℕ) (p : ℕ × List ℕ) → pointer_in level (pointers_of (Some p)) ≡ cond (p.0 == level) (Some p.1) None
unfolding pointer_in last_by
own_pointer level p = refl

pub pointer_after : (level : ℕ) (pointer : Option (ℕ × List ℕ)) (pointers : List (Option (List ℕ))) → length pointers ≡ 7 → IfSome pointer FitsPlace
    → get_or (with_pointer pointer pointers) level None ≡ option_or (pointer_in level (pointers_of pointer)) (get_or pointers level None)
pointer_after level None pointers seven fits = ap (λ o. option_or o (get_or pointers level None)) (sym (pointer_in-none level))
pointer_after level (Some p) pointers seven fits = go (p.0 == level) refl
  where
    go : (b : Bool) → (p.0 == level) ≡ b → get_or (slice_set pointers p.0 (Some p.1)) level None ≡ option_or (pointer_in level (pointers_of (Some p))) (get_or pointers level None)
    go true e =
        let same = eqb-true p.0 level e in
        let low = fits.0 in
        let within : p.0 < length pointers = omega arith in
        let here : get_or (slice_set pointers p.0 (Some p.1)) p.0 None ≡ Some p.1 = get_or-set_same pointers p.0 (Some p.1) None within in
        subst (λ (n : ℕ). get_or (slice_set pointers p.0 (Some p.1)) n None ≡ Some p.1) same here
        ∙ sym (ap (λ o. option_or o (get_or pointers level None)) (own_pointer level p ∙ ap (λ (b : Bool). cond b (Some p.1) None) e))
    go false e =
        let other : level ≢ p.0 = λ s. eqb-false p.0 level e (sym s) in
        get_or-set_other pointers p.0 level (Some p.1) None other
        ∙ sym (ap (λ o. option_or o (get_or pointers level None)) (own_pointer level p ∙ ap (λ (b : Bool). cond b (Some p.1) None) e))

-- ---- files

-- a table of the version whose number goes is deleted at its own level
deleted_here : (edits : List Change) (d : Difference) (v : Levels) → IsStanding edits v → Suits d v
    → (n : ℕ) (t : Table) → Has (level_in v.tables n) t → Has (deleted_numbers d) t.number → Has d.deleted (record { level = n; number = t.number })
deleted_here edits d v c s n t h k =
    let r = map_has (λ (x : Deletion). x.number) d.deleted t.number k in
    let there = s.there r.0 r.1 in
    let same : placed_at n (meta_of t) ≡ placed_at r.0.level (meta_of there.0) =
    one_file_a_number edits c.innocent (placed_at n (meta_of t)) (placed_at r.0.level (meta_of there.0)) ((c.files n (meta_of t)).0 (t, h, refl)) ((c.files r.0.level (meta_of there.0)).0 (there.0, there.1, refl))
    (sym (there.2 ∙ r.2)) in
    subst (λ (k : ℕ). Has d.deleted (record { level = k; number = t.number })) (sym (ap (λ (a : FileAt). a.level) same))
    (subst (λ (m : ℕ). Has d.deleted (record { level = r.0.level; number = m })) r.2 r.1)

numbered : (ds : List Deletion) (level : ℕ) (file : TableFile) → Has ds (deletion_of (placed_at level file)) → Has (map (λ x. x.number) ds) file.number
numbered ds level file h = has_map (λ (x : Deletion). x.number) ds (deletion_of (placed_at level file)) h

pub difference_turns : TablesChange → (edits : List Change) (h : HeldManifest) (d : Difference) (v : Levels) (next : ℕ) → IsStanding edits v → HasOwnNumbers v → FitsDifference d → Suits d v
    → Turns edits (change_edit h d next) v (changed_by d v) h.log h.prev_log next
difference_turns law edits h d v next c own fits s = record {
  innocent = record { comparator = λ none. none; added = fresh_new edits d.deleted (map placed d.added) (apart_from (map placed d.added) (subst AreDistinct (numbers d.added) s.apart)) fresh };
  files = λ level file. (λ f. there level file f, λ f. back level file f);
  pointers = λ level low. ap (λ ps. get_or ps level None) (pointers_are d v) ∙ pointer_after level d.pointer v.pointers own.seven_pointers fits.pointer;
  log_is = refl;
  prev_log_is = refl;
  next_is = refl;
  last_is = ap Some (sym (last_is d v));
}
  where
    numbers : (xs : List (ℕ × Table)) → map (λ a. a.1.number) xs ≡ map (λ a. a.file.number) (map placed xs)
    numbers [] = refl
    numbers (x ∷ xs) = ap (λ ns. x.1.number ∷ ns) (numbers xs)

    fresh : AreFresh edits d.deleted (map placed d.added)
    fresh a b sa gone hb e =
        let f = (c.files a.level a.file).1 sa in
        let x = map_has placed d.added b hb in
        s.fresh x.0.0 a.level x.0.1 f.0 x.1 f.1
        (λ k. gone (subst (λ (m : ℕ). Has d.deleted (record { level = a.level; number = m })) (ap (λ (m : TableFile). m.number) f.2) (deleted_here edits d v c s a.level f.0 f.1 k)))
        (ap (λ (m : TableFile). m.number) f.2 ∙ e ∙ sym (ap (λ (y : FileAt). y.file.number) x.2))

    there : (level : ℕ) (file : TableFile) → IsFileAt (changed_by d v) level file
        → (IsFileAt v level file × (Has d.deleted (deletion_of (placed_at level file)) → ⊥)) ⊎ Has (map placed d.added) (placed_at level file)
    there level file f =
        let lt : level < length v.tables = subst (λ k. level < k) (same_length d v) (inside (changed_by d v).tables level f.0 f.1) in
        elim ((law (deleted_numbers d) d.added d.pointer d.last v level f.0 lt).0 f.1) [
          | inl x ↦ inl ((f.0, x.0, f.2), λ k. x.1 (subst (λ (m : ℕ). Has (deleted_numbers d) m) (sym (ap (λ (m : TableFile). m.number) f.2)) (numbered d.deleted level file k)))
          | inr a ↦ inr (subst (λ (m : TableFile). Has (map placed d.added) (placed_at level m)) f.2 (has_map placed d.added (level, f.0) a))
        ]

    back : (level : ℕ) (file : TableFile) → (IsFileAt v level file × (Has d.deleted (deletion_of (placed_at level file)) → ⊥)) ⊎ Has (map placed d.added) (placed_at level file)
        → IsFileAt (changed_by d v) level file
    back level file (inl x) =
        let t = x.0.0 in (
          t,
          (law (deleted_numbers d) d.added d.pointer d.last v level t (inside v.tables level t x.0.1)).1
              (inl (x.0.1, λ k. x.1 (subst (λ (m : TableFile). Has d.deleted (deletion_of (placed_at level m))) x.0.2 (deleted_here edits d v c s level t x.0.1 k)))),
          x.0.2,
        )
    back level file (inr a) =
        let x = map_has placed d.added (placed_at level file) a in
        let low = (all_at FitsComing d.added x.0 fits.added x.1).0 in
        let lt : x.0.0 < length v.tables = let seven = own.seven in omega arith in
        let f : IsFileAt (changed_by d v) x.0.0 (meta_of x.0.1) = (x.0.1, (law (deleted_numbers d) d.added d.pointer d.last v x.0.0 x.0.1 lt).1 (inr x.1), refl) in
        subst (λ (y : FileAt). IsFileAt (changed_by d v) y.level y.file) x.2 f
