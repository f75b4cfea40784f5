-- The one edit of a new manifest comes to its version.
use Rattle.std.proofs.Common.{◌≡◌, ℕ, zero, suc, ◌+◌, ◌<◌, ◌≤◌, ◌^◌, List, [], ◌∷◌, ◌++◌, Option, Some, None, get_or, length, map, refl, sym, ◌∙◌, ap, subst, inl, inr, arith}
use Rattle.std.specs.Prelude.{IfSome, codes}
use Rattle.std.specs.Option.{option_or}
use Rattle.std.specs.List.{All}
use Rattle.std.specs.List.Sorted.{IsStrictlySortedBy}
use Rattle.std.proofs.lemmas.List.{length-map, map-append}
use Rattle.std.proofs.lemmas.List.Elements.{All-nil, All-cons}
use Rattle.lsm_codec.specs.Lists.{Has}
use Rattle.lsm_codec.proofs.CallerLemmas.{all_at}
use Rattle.lsm_table.specs.Registry.{Table}
use Rattle.lsm_manifest.specs.EditFit.{Change, FitsAdded, FitsDeleted, FitsKey, FitsPointer, IsFit}
use Rattle.lsm_manifest.specs.EditWriting.{AreInOrder}
use Rattle.lsm_manifest.specs.FileOrder.{TableFile, file_cmp}
use Rattle.lsm_manifest.specs.Last.{last_by}
use Rattle.lsm_manifest.specs.Replay.{FileAt, pointer_in}
use Rattle.lsm_manifest.specs.Shape.{Form, IsShape}
use Rattle.lsm_manifest.specs.WholeEdit.{placed_at, pointers_from, whole_edit}
use Rattle.lsm_manifest.specs.WholeEdit as manifest
use Rattle.lsm_manifest.proofs.CallerLemmas.{at_files, files_at, fresh_new, innocent_none, last_by-none, pointer_in-none, whole_fits, whole_replays, innocent_push}
use Rattle.lsm_version.specs.FileNumbers.{AreDistinct}
use Rattle.lsm_version.specs.Versions.{Levels, files_of, level_in, no_levels}
use Rattle.lsm_version.specs.Versions as version
use Rattle.lsm_journal.specs.HeldManifest.{HeldManifest}
use Rattle.lsm_journal.specs.Difference.{Difference, FitsComing, FitsDifference, FitsPlace}
use Rattle.lsm_journal.specs.Recorded.{ComesTo, FitsLevels, HasOwnNumbers, IsFileAt, IsStanding, meta_of}
use Rattle.lsm_journal.specs.Writing.{change_edit, first_edit_under, metas_of, placed, pointers_of, shape_of, version_edit}
use Rattle.lsm_journal.proofs.Differing.{apart_from, has_map, map_has}
use Rattle.lsm_journal.proofs.Standing.{Turns, comes_more}

pub all_from : {X : Type 0} (P : X → Type 0) (xs : List X) → ((x : X) → Has xs x → P x) → All P xs
all_from P [] each = All-nil P
all_from P (x ∷ xs) each = All-cons P x xs (each x (inl refl)) (all_from P xs (λ y h. each y (inr h)))

-- ---- the files of the levels

pub level_metas : (tables : List (List Table)) (level : ℕ) → get_or (metas_of tables) level [] ≡ map meta_of (level_in tables level)
level_metas [] level = refl
level_metas (ts ∷ tables) zero = refl
level_metas (ts ∷ tables) (suc level) = level_metas tables level

placed_numbers : (level : ℕ) (ts : List Table) → map (λ a. a.file.number) (map (placed_at level) (map meta_of ts)) ≡ map (λ F. F.number) (files_of level ts)
placed_numbers level [] = refl
placed_numbers level (t ∷ ts) = ap (λ ns. t.number ∷ ns) (placed_numbers level ts)

whole_numbers : (level : ℕ) (tables : List (List Table)) → map (λ a. a.file.number) (manifest.files_from level (metas_of tables)) ≡ map (λ F. F.number) (version.files_from level tables)
whole_numbers level [] = refl
whole_numbers level (ts ∷ tables) =
    map-append (λ (a : FileAt). a.file.number) (map (placed_at level) (map meta_of ts)) (manifest.files_from (suc level) (metas_of tables))
    ∙ ap (λ ns. ns ++ map (λ (a : FileAt). a.file.number) (manifest.files_from (suc level) (metas_of tables))) (placed_numbers level ts)
    ∙ ap (λ ns. map (λ F. F.number) (files_of level ts) ++ ns) (whole_numbers (suc level) tables)
    ∙ sym (map-append (λ F. F.number) (files_of level ts) (version.files_from (suc level) tables))

-- ---- the pointers: those of a shape without files

abbrev nones : ℕ → List (List TableFile)
nones zero = []
nones (suc n) = [] ∷ nones n

none_at : (n level : ℕ) → get_or (nones n) level [] ≡ []
none_at zero level = refl
none_at (suc n) zero = refl
none_at (suc n) (suc level) = none_at n level

abbrev bare : List (Option (List ℕ)) → Form
bare pointers = record { levels = nones 7; pointers = pointers; log = 0; prev_log = 0; next = 0; last = 0 }

no_file : {P : Type 0} (level : ℕ) (f : TableFile) → Has (get_or (nones 7) level []) f → P
no_file level f h = absurd (subst (λ (fs : List TableFile). Has fs f) (none_at 7 level) h)

bare_shape : (pointers : List (Option (List ℕ))) → length pointers ≡ 7 → IsShape (bare pointers)
unfolding IsStrictlySortedBy
bare_shape pointers seven = record {
  seven = refl;
  seven_pointers = seven;
  ordered = λ level low. subst (IsStrictlySortedBy file_cmp) (sym (none_at 7 level)) tt;
  numbers = λ level other f g low less h k same. no_file level f h;
}

last_alone : {A : Type 0} (pick : Change → Option A) (e : Change) → Rattle.lsm_manifest.specs.Last.last_by pick (e ∷ []) ≡ pick e
unfolding last_by
last_alone pick e = refl

pointers_at : (pointers : List (Option (List ℕ))) → length pointers ≡ 7 → (level : ℕ) → level ≤ 6 → get_or pointers level None ≡ pointer_in level (pointers_from 0 pointers)
pointers_at pointers seven level low =
    (whole_replays (bare pointers) (bare_shape pointers seven)).pointers level low ∙ last_alone (λ (x : Change). pointer_in level x.pointers) (whole_edit (bare pointers))

or_none : {A : Type 0} (o : Option A) → o ≡ option_or o None
or_none None = refl
or_none (Some x) = refl

-- ---- before the first edit

abbrev nothing : Levels
nothing = record { tables = []; pointers = []; last = 0 }

standing_none : IsStanding [] nothing
standing_none = record {
  innocent = innocent_none;
  files = λ level file. (λ h. absurd h.1, λ h. absurd h);
  pointers = λ level low. sym (last_by-none (λ (x : Change). pointer_in level x.pointers));
}

pub version_turns : (h : HeldManifest) (v : Levels) (next : ℕ) → HasOwnNumbers v → Turns [] (version_edit h v next) nothing v h.log h.prev_log next
version_turns h v next own = record {
  innocent = record {
    comparator = λ other. other refl;
    added = fresh_new [] [] (manifest.files_from 0 (metas_of v.tables)) (apart_from (manifest.files_from 0 (metas_of v.tables)) (subst AreDistinct (sym (whole_numbers 0 v.tables)) own.numbers)) (λ a b st. absurd st);
  };
  files = λ level file. (λ f. inr (there level file f), λ f. elim f [ inl none ↦ absurd none.0.1 | inr a ↦ back level file a ]);
  pointers = λ level low. pointers_at v.pointers own.seven_pointers level low ∙ or_none (pointer_in level (pointers_from 0 v.pointers));
  log_is = refl;
  prev_log_is = refl;
  next_is = refl;
  last_is = refl;
}
  where
    there : (level : ℕ) (file : TableFile) → IsFileAt v level file → Has (manifest.files_from 0 (metas_of v.tables)) (placed_at level file)
    there level file f =
        let here : Has (map meta_of (level_in v.tables level)) file = subst (Has (map meta_of (level_in v.tables level))) f.2 (has_map meta_of (level_in v.tables level) f.0 f.1) in
        let placed : Has (get_or (metas_of v.tables) level []) file = subst (λ (fs : List TableFile). Has fs file) (sym (level_metas v.tables level)) here in
        let e : 0 + level ≡ level = omega arith in
        subst (λ (n : ℕ). Has (manifest.files_from 0 (metas_of v.tables)) (placed_at n file)) e (at_files 0 (metas_of v.tables) level file placed)

    back : (level : ℕ) (file : TableFile) → Has (manifest.files_from 0 (metas_of v.tables)) (placed_at level file) → IsFileAt v level file
    back level file h =
        let r = files_at 0 (metas_of v.tables) (placed_at level file) h in
        let e : r.0 ≡ level = omega (arith, r.2) in
        let here : Has (get_or (metas_of v.tables) level []) file = subst (λ (n : ℕ). Has (get_or (metas_of v.tables) n []) file) e r.3 in
        let x = map_has meta_of (level_in v.tables level) file (subst (λ (fs : List TableFile). Has fs file) (level_metas v.tables level) here) in
        (x.0, x.1, x.2)

pub version_comes : (h : HeldManifest) (v : Levels) (next : ℕ) → HasOwnNumbers v → ComesTo (version_edit h v next ∷ []) v h.log h.prev_log next
version_comes h v next own = comes_more [] (version_edit h v next) nothing v h.log h.prev_log next standing_none (version_turns h v next own)

-- ---- a new database's edit

pub created_comes : (number : ℕ) → ComesTo (first_edit_under number ∷ []) no_levels 0 0 (number + 1)
created_comes number = record {
  standing = record {
    innocent = innocent_push [] (first_edit_under number) innocent_none record { comparator = λ other. other refl; added = fresh_new [] [] [] tt (λ a b st. absurd st) };
    files = λ level file. (λ f. absurd (none level f.0 f.1), λ st. absurd (elim st [ inl a ↦ a.0 | inr b ↦ b ]));
    pointers = λ level low. no_pointer level ∙ sym (last_alone (λ (x : Change). pointer_in level x.pointers) (first_edit_under number) ∙ pointer_in-none level);
  };
  log_is = last_alone (λ (x : Change). x.log) (first_edit_under number);
  prev_log_is = ap (λ o. Rattle.std.specs.Prelude.unwrap_or o 0) (last_alone (λ (x : Change). x.prev_log) (first_edit_under number));
  next_is = last_alone (λ (x : Change). x.next) (first_edit_under number);
  last_is = last_alone (λ (x : Change). x.last) (first_edit_under number);
}
  where
    none : (level : ℕ) (t : Table) → Has (level_in no_levels.tables level) t → ⊥
    none zero t h = h
    none (suc zero) t h = h
    none (suc (suc zero)) t h = h
    none (suc (suc (suc zero))) t h = h
    none (suc (suc (suc (suc zero)))) t h = h
    none (suc (suc (suc (suc (suc zero))))) t h = h
    none (suc (suc (suc (suc (suc (suc zero)))))) t h = h
    none (suc (suc (suc (suc (suc (suc (suc level))))))) t h = h

    no_pointer : (level : ℕ) → get_or no_levels.pointers level None ≡ None
    no_pointer zero = refl
    no_pointer (suc zero) = refl
    no_pointer (suc (suc zero)) = refl
    no_pointer (suc (suc (suc zero))) = refl
    no_pointer (suc (suc (suc (suc zero)))) = refl
    no_pointer (suc (suc (suc (suc (suc zero))))) = refl
    no_pointer (suc (suc (suc (suc (suc (suc zero)))))) = refl
    no_pointer (suc (suc (suc (suc (suc (suc (suc level))))))) = refl

pub created_own : HasOwnNumbers no_levels
created_own = record { seven = refl; seven_pointers = refl; numbers = λ n. omega arith }

-- ---- what fits

short_name : length (codes "leveldb.BytewiseComparator") < 2 ^ 32
short_name = omega arith

pub version_fits : (h : HeldManifest) (v : Levels) (next : ℕ) → length v.tables ≡ 7 → length v.pointers ≡ 7 → FitsLevels v → IsFit (version_edit h v next)
version_fits h v next seven seven_pointers fits = record {
  comparator = short_name;
  pointers = (whole_fits (bare v.pointers) (bare_shape v.pointers seven_pointers) record { files = λ level file low k. no_file level file k; pointers = fits.pointers }).pointers;
  deleted = All-nil FitsDeleted;
  added = all_from FitsAdded (manifest.files_from 0 (metas_of v.tables)) (λ a k.
      let r = files_at 0 (metas_of v.tables) a k in
      let size = length-map v.tables (λ ts. map meta_of ts) in
      let low : a.level ≤ 6 = omega (arith, r.1, r.2) in
      let x = map_has meta_of (level_in v.tables r.0) a.file (subst (λ (fs : List TableFile). Has fs a.file) (level_metas v.tables r.0) r.3) in
      let keys = fits.tables r.0 x.0 x.1 in
      (low, subst (λ (m : TableFile). FitsKey m.smallest) x.2 keys.0, subst (λ (m : TableFile). FitsKey m.largest) x.2 keys.1));
}

pub change_fits : (h : HeldManifest) (d : Difference) (next : ℕ) → FitsDifference d → IsFit (change_edit h d next)
change_fits h d next fits = record {
  comparator = tt;
  pointers = one d.pointer fits.pointer;
  deleted = fits.deleted;
  added = all_from FitsAdded (map placed d.added) (λ a k.
      let x = map_has placed d.added a k in
      subst FitsAdded x.2 (all_at FitsComing d.added x.0 fits.added x.1));
}
  where
    one : (pointer : Option (ℕ × List ℕ)) → IfSome pointer FitsPlace → All FitsPointer (pointers_of pointer)
    one None f = All-nil FitsPointer
    one (Some p) f = All-cons FitsPointer _ [] f (All-nil FitsPointer)

-- an edit that may be written: it fits, and its deletions are in order
pub change_ready : (e : Change) (h : HeldManifest) (d : Difference) (next : ℕ) → e ≡ change_edit h d next → FitsDifference d → IsFit e × AreInOrder e.deleted
change_ready e h d next is fits = subst (λ (x : Change). IsFit x × AreInOrder x.deleted) (sym is) (change_fits h d next fits, fits.ordered)

pub version_ready : (e : Change) (h : HeldManifest) (v : Levels) (next : ℕ) → e ≡ version_edit h v next → length v.tables ≡ 7 → length v.pointers ≡ 7 → FitsLevels v → IsFit e × AreInOrder e.deleted
version_ready e h v next is seven seven_pointers fits =
    subst (λ (x : Change). IsFit x × AreInOrder x.deleted) (sym is) (version_fits h v next seven seven_pointers fits, λ k d low lt. absurd (omega arith))

pub shape_is : (h : HeldManifest) (v : Levels) (next : ℕ) (levels : List (List TableFile)) (pointers : List (Option (List ℕ))) (last : ℕ) → levels ≡ metas_of v.tables → pointers ≡ v.pointers → last ≡ v.last
    → ◌≡◌ {A = Form} (record { levels = levels; pointers = pointers; log = h.log; prev_log = h.prev_log; next = next; last = last }) (shape_of h v next)
shape_is h v next levels pointers last a b c = cc
