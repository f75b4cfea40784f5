-- An opening is not refused for what the folder shows.
use Rattle.std.proofs.Common.{◌≡◌, ℕ, zero, suc, ◌+◌, ◌-◌, ◌^◌, ◌<◌, ◌≤◌, Bool, true, false, List, [], ◌∷◌, ◌++◌, length, get_or, Option, Some, None, Result, Ok, Err, cond, refl, sym, ◌∙◌, ap, subst, inl, inr, arith}
use Rattle.std.specs.Prelude.{◌==◌}
use Rattle.std.specs.List.{AllByRecursion}
use Rattle.std.specs.List.Sorted.{IsStrictlySortedBy}
use Rattle.std.specs.declared.cmp.Ordering.TheVariants.{Less, Equal}
use Rattle.std.proofs.lemmas.Bool.{eqb-true}
use Rattle.std.proofs.lemmas.Cmp.{tied_itself}
use Rattle.std.proofs.lemmas.List.Sums.{sum_by-append}
use Rattle.std.proofs.lemmas.Map.Keys.{sorted_head, sorted_tail}
use Rattle.lsm_codec.specs.Entries.{Entry, internal_key}
use Rattle.lsm_codec.specs.Gives as gives
use Rattle.lsm_codec.specs.Keys.{InternalKey, IsKey}
use Rattle.lsm_codec.specs.Lists.{Has}
use Rattle.lsm_codec.proofs.CallerLemmas.{IsKey-unique, has_cases, has_right}
use Rattle.lsm_storage.specs.FileNames.{table_name, manifest_name, current_text}
use Rattle.lsm_shelf.specs.Asked.{Asked, Load}
use Rattle.lsm_shelf.specs.Told.{Told, Becomes, Counted, Rose, finding}
use Rattle.lsm_shelf.specs.declared.shelf_fault.ShelfFault.{ShelfFault}
use Rattle.lsm_shelf.specs.declared.shelf_fault.ShelfFault.TheVariants as shelf
use Rattle.lsm_manifest.specs.Edit.{IsEdit}
use Rattle.lsm_manifest.specs.EditFit.{Change}
use Rattle.lsm_manifest.specs.EditReading.{edit_at}
use Rattle.lsm_manifest.specs.EditView as edit_view
use Rattle.lsm_manifest.specs.FileOrder.{TableFile, file_cmp}
use Rattle.lsm_manifest.specs.Log.{IsLog}
use Rattle.lsm_manifest.specs.LogReading.{Whole, log_at}
use Rattle.lsm_manifest.specs.LogView as log_view
use Rattle.lsm_manifest.specs.Manifest.{AreEdits, IsManifest}
use Rattle.lsm_manifest.specs.Shape.{Form, IsRefused, IsReplayed, IsShape}
use Rattle.lsm_manifest.specs.declared.edit_fault.EditFault.{EditFault}
use Rattle.lsm_manifest.specs.declared.log_fault.LogFault.{LogFault}
use Rattle.lsm_manifest.proofs.CallerLemmas.{log_again, file_total, one_manifest, one_shape, refused_none, replayed_shape}
use Rattle.lsm_table.specs.HeldTable.{entries_in, entries_or_none}
use Rattle.lsm_table.specs.Registry.{Table}
use Rattle.lsm_table.specs.TableReading.{table_at}
use Rattle.lsm_table.specs.declared.read_fault.ReadFault.{ReadFault}
use Rattle.lsm_table.specs.declared.read_fault.ReadFault.TheVariants as read
use Rattle.lsm_table.specs.declared.table_fault.TableFault.{TableFault}
use Rattle.lsm_table.specs.ReadFault.{IsMemory}
use Rattle.lsm_table.specs.Reading.{is_memory}
use Rattle.lsm_table.proofs.CallerLemmas.{memory_only}
use Rattle.lsm_model.specs.Checking.{IsRangeOf}
use Rattle.lsm_model.specs.Files.{Before, File}
use Rattle.lsm_model.specs.Ranges.{MeetInKeys, Range, SomePair, key_le}
use Rattle.lsm_model.proofs.CallerLemmas.{before_not_first, first_is_le}
use Rattle.lsm_version.specs.FileNumbers.{file_numbers, numbers_of, times}
use Rattle.lsm_version.specs.Versions.{IsSound, IsWhole, Levels, file_of, files, files_from, level_in}
use Rattle.lsm_version.proofs.CallerLemmas.{all_has, file_in, in_files, inside}
use Rattle.lsm_verify.specs.CheckFault.{CheckCounted}
use Rattle.lsm_verify.specs.CheckRefusal.{AreTablesOf, IsAgainRefusal, IsOfShape, IsRefusal}
use Rattle.lsm_verify.specs.CheckedFiles.{IsFileOf, IsImageOf}
use Rattle.lsm_verify.specs.FileRefusal.{IsFileRefusal, IsFilesRefusal, IsMemoryRefusal, NamesNone}
use Rattle.lsm_verify.specs.LevelLayouts.{AreRangesOf, IsLayoutRefusal}
use Rattle.lsm_verify.specs.Loading.{AreFilesOf, AreInFileOrder, AreLevelsOf, AreLevelsStored, AreStored, all_files, placed_levels}
use Rattle.lsm_verify.specs.declared.check_fault.CheckFault.{CheckFault}
use Rattle.lsm_verify.specs.declared.check_fault.CheckFault.TheVariants as check
use Rattle.lsm_journal.specs.Finding.{IsFindRefusal}
use Rattle.lsm_journal.specs.Recorded.{IsFileAt, meta_of}
use Rattle.lsm_journal.specs.Recovering.{IsRecoverRefusal}
use Rattle.lsm_journal.specs.declared.open_fault.OpenFault.{OpenFault}
use Rattle.lsm_journal.specs.declared.open_fault.OpenFault.TheVariants as opening
use Rattle.lsm_journal.specs.declared.recover_fault.RecoverFault.{RecoverFault}
use Rattle.lsm_journal.specs.declared.recover_fault.RecoverFault.TheVariants as recover
use Rattle.lsm_state.specs.Opening.{IsOpenRefusal, IsStartRefusal}
use Rattle.lsm_crash.specs.Disk.{Disk, Shows}
use Rattle.lsm_crash.specs.Known.{current_name}
use Rattle.lsm_crash.specs.States.{Shown}
use Rattle.lsm_crash.specs.Refusing.{IsNotTheManifest, IsNotTheTables, IsNotWhatWasFound, IsWantOrDevice, ReadsShown}
use Rattle.lsm_crash.proofs.Names.{texts_apart}
use Rattle.lsm_crash.proofs.Found.{same_file}
use Rattle.lsm_crash.proofs.Opening.{shows_one}
use Rattle.lsm_crash.proofs.EditsAgain.{edit_again}
use Rattle.lsm_journal.specs.declared.manifest_limit.ManifestLimit.{ManifestLimit}

-- ---- the manifest

not_log : (e : LogFault) (bytes : List ℕ) (records : List (List ℕ)) (rest : ℕ) → IsLog bytes records rest → log_view.Fails e (log_at bytes) → log_view.is_memory e ≡ true
not_log e bytes records rest log fails = by (log_view.is_memory e) refl fails
  where
    by : (b : Bool) → log_view.is_memory e ≡ b → gives.FailsUnless b e (log_at bytes) → log_view.is_memory e ≡ true
    by true is f = is
    by false is f = (let same = sym (log_again bytes records rest log) ∙ f in absurd cc)

not_edit : (e : EditFault) (bytes : List ℕ) (edit : Change) → IsEdit bytes edit → edit_view.Fails e (edit_at bytes) → edit_view.is_memory e ≡ true
not_edit e bytes edit is fails = by (edit_view.is_memory e) refl fails
  where
    by : (b : Bool) → edit_view.is_memory e ≡ b → gives.FailsUnless b e (edit_at bytes) → edit_view.is_memory e ≡ true
    by true is_true f = is_true
    by false is_false f = (let same = sym (edit_again bytes edit is) ∙ f in absurd cc)

edit_in : (front : List (List ℕ)) (one : List ℕ) (back : List (List ℕ)) (edits : List Change) → AreEdits (front ++ one ∷ back) edits → (edit : Change) × IsEdit one edit
edit_in [] one back [] all = absurd all
edit_in [] one back (e ∷ es) all = (e, all.0)
edit_in (r ∷ front) one back [] all = absurd all
edit_in (r ∷ front) one back (e ∷ es) all = edit_in front one back es all.1

abbrev good : Whole → Result Whole LogFault
good w = Ok w

whole_is : (w u : Whole) → good w ≡ good u → w ≡ u
whole_is w u e = cc

records_are : (bytes : List ℕ) (rs ss : List (List ℕ)) (m n : ℕ) → IsLog bytes rs m → IsLog bytes ss n → rs ≡ ss
records_are bytes rs ss m n a b = ap (λ (w : Whole). w.0) (whole_is (rs, m) (ss, n) (sym (log_again bytes rs m a) ∙ log_again bytes ss n b))

-- ---- numbers of files

below_all : (f : TableFile) (fs : List TableFile) → AllByRecursion (λ g. file_cmp f g ≡ Less) fs → (g : TableFile) → Has fs g → file_cmp f g ≡ Less
below_all f [] all g h = absurd h
below_all f (x ∷ fs) all g (inl e) = subst (λ y. file_cmp f y ≡ Less) e all.0
below_all f (x ∷ fs) all g (inr h) = below_all f fs all.1 g h

-- a file does not stand before itself
not_itself : (f g : TableFile) → file_cmp f g ≡ Less → f ≡ g → ⊥
not_itself f g less same = (let e : Less ≡ Equal = sym less ∙ (ap (file_cmp f) (sym same) ∙ tied_itself file_total f) in cc)

times_both : (n : ℕ) (xs ys : List ℕ) → times n (xs ++ ys) ≡ times n xs + times n ys
times_both n xs ys = sum_by-append _ xs ys

some_of : (n : ℕ) (fs : List TableFile) → 1 ≤ times n (file_numbers fs) → (f : TableFile) × Has fs f × (f.number ≡ n)
some_of n [] lt = absurd (omega (arith, lt))
some_of n (f ∷ fs) lt = by (f.number == n) refl (omega (arith, lt, times_both n (f.number ∷ []) (file_numbers fs))) (some_of n fs)
  where
    by : (b : Bool) → f.number == n ≡ b → 1 ≤ cond b 1 0 + times n (file_numbers fs) → (1 ≤ times n (file_numbers fs) → (g : TableFile) × Has fs g × (g.number ≡ n)) → (g : TableFile) × Has (f ∷ fs) g × (g.number ≡ n)
    by true e le rest = (f, inl refl, eqb-true f.number n e)
    by false e le rest = (let r = rest (omega (arith, le)) in (r.0, inr r.1, r.2))

two_of : (n : ℕ) (fs : List TableFile) → IsStrictlySortedBy file_cmp fs → ((f g : TableFile) → Has fs f → Has fs g → f.number ≡ g.number → f ≡ g) → 2 ≤ times n (file_numbers fs) → ⊥
two_of n [] up one lt = omega (arith, lt)
two_of n (f ∷ fs) up one lt = by (f.number == n) refl (omega (arith, lt, times_both n (f.number ∷ []) (file_numbers fs))) (two_of n fs (sorted_tail file_cmp f fs up) (λ g h a b. one g h (inr a) (inr b)))
  where
    by : (b : Bool) → f.number == n ≡ b → 2 ≤ cond b 1 0 + times n (file_numbers fs) → (2 ≤ times n (file_numbers fs) → ⊥) → ⊥
    by true e le rest =
        let r = some_of n fs (omega (arith, le)) in
        not_itself f r.0 (below_all f fs (sorted_head file_cmp f fs up) r.0 r.1) (one f r.0 (inl refl) (inr r.1) (eqb-true f.number n e ∙ sym r.2))
    by false e le rest = rest (omega (arith, le))

abbrev IsOneEach : List (List TableFile) → Type 0
IsOneEach levels = (level other : ℕ) (f g : TableFile) → level < length levels → other < length levels → Has (get_or levels level []) f → Has (get_or levels other []) g → f.number ≡ g.number → (level ≡ other) × (f ≡ g)

some_in : (n : ℕ) (levels : List (List TableFile)) → 1 ≤ times n (numbers_of levels) → (level : ℕ) × (f : TableFile) × (level < length levels) × Has (get_or levels level []) f × (f.number ≡ n)
some_in n [] lt = absurd (omega (arith, lt))
some_in n (fs ∷ levels) lt = by (times n (file_numbers fs)) refl (some_in n levels)
  where
    by : (m : ℕ) → times n (file_numbers fs) ≡ m → (1 ≤ times n (numbers_of levels) → (level : ℕ) × (f : TableFile) × (level < length levels) × Has (get_or levels level []) f × (f.number ≡ n)) → (level : ℕ) × (f : TableFile) × (level < length (fs ∷ levels)) × Has (get_or (fs ∷ levels) level []) f × (f.number ≡ n)
    by zero e rest = (let r = rest (omega (arith, lt, e, times_both n (file_numbers fs) (numbers_of levels))) in (suc r.0, r.1, omega (arith, r.2), r.3, r.4))
    by (suc m) e rest = (let r = some_of n fs (omega (arith, e)) in (0, r.0, omega arith, r.1, r.2))

two_in : (n : ℕ) (levels : List (List TableFile)) → ((level : ℕ) → level < length levels → IsStrictlySortedBy file_cmp (get_or levels level [])) → IsOneEach levels → 2 ≤ times n (numbers_of levels) → ⊥
two_in n [] up one lt = omega (arith, lt)
two_in n (fs ∷ levels) up one lt = by (times n (file_numbers fs)) refl (two_in n levels (λ level le. up (suc level) (omega (arith, le)))
    (λ a b f g la lb ha hb same. (let r = one (suc a) (suc b) f g (omega (arith, la)) (omega (arith, lb)) ha hb same in (omega (arith, r.0), r.1))))
  where
    by : (m : ℕ) → times n (file_numbers fs) ≡ m → (2 ≤ times n (numbers_of levels) → ⊥) → ⊥
    by zero e rest = rest (omega (arith, lt, e, times_both n (file_numbers fs) (numbers_of levels)))
    by (suc zero) e rest =
        let f = some_of n fs (omega (arith, e)) in
        let g = some_in n levels (omega (arith, lt, e, times_both n (file_numbers fs) (numbers_of levels))) in
        let r = one 0 (suc g.0) f.0 g.1 (omega arith) (omega (arith, g.2)) f.1 g.3 (f.2 ∙ sym g.4) in
        omega (arith, r.0)
    by (suc (suc m)) e rest = two_of n fs (up 0 (omega arith)) (λ f g a b same. (one 0 0 f g (omega arith) (omega arith) a b same).1) (omega (arith, e))

in_file_order : (levels : List (List TableFile)) → ((level : ℕ) → level < length levels → IsStrictlySortedBy file_cmp (get_or levels level [])) → AreInFileOrder levels
in_file_order [] up = tt
in_file_order (fs ∷ levels) up = (up 0 (omega arith), in_file_order levels (λ level le. up (suc level) (omega (arith, le))))

-- ---- files of levels, and the tables that were read for them

pub level_of_file : (levels : List (List TableFile)) (file : TableFile)
    → Has (all_files levels) file
    → (level : ℕ) × (level < length levels) × Has (get_or levels level []) file
level_of_file [] file h = absurd h
level_of_file (fs ∷ levels) file h = elim (has_cases fs (all_files levels) file h) [
  | inl k ↦ (0, omega arith, k)
  | inr k ↦ (let r = level_of_file levels file k in (suc r.0, omega (arith, r.1), r.2))
]

at_level : (last : ℕ) (shape : List (List TableFile)) (tables : List (List Table)) → AreLevelsOf last shape tables → (level : ℕ) → AreFilesOf last (get_or shape level []) (level_in tables level)
at_level last [] [] all level = tt
at_level last [] (ts ∷ tables) all level = absurd all
at_level last (fs ∷ shape) [] all level = absurd all
at_level last (fs ∷ shape) (ts ∷ tables) all zero = all.0
at_level last (fs ∷ shape) (ts ∷ tables) all (suc level) = at_level last shape tables all.1 level

as_many : (last : ℕ) (shape : List (List TableFile)) (tables : List (List Table)) → AreLevelsOf last shape tables → length shape ≡ length tables
as_many last [] [] all = refl
as_many last [] (ts ∷ tables) all = absurd all
as_many last (fs ∷ shape) [] all = absurd all
as_many last (fs ∷ shape) (ts ∷ tables) all = ap suc (as_many last shape tables all.1)

file_for : (last : ℕ) (fs : List TableFile) (ts : List Table) → AreFilesOf last fs ts → (a : Table) → Has ts a → (f : TableFile) × Has fs f × IsFileOf last f a
file_for last [] [] all a h = absurd h
file_for last [] (t ∷ ts) all a h = absurd all
file_for last (f ∷ fs) [] all a h = absurd h
file_for last (f ∷ fs) (t ∷ ts) all a (inl e) = (f, inl refl, subst (IsFileOf last f) e all.0)
file_for last (f ∷ fs) (t ∷ ts) all a (inr h) = (let r = file_for last fs ts all.1 a h in (r.0, inr r.1, r.2))

stored_one : (Stored : ℕ → List ℕ → Type 0) (ts : List Table) → AreStored Stored ts → (a : Table) → Has ts a → Stored a.number a.image
stored_one Stored [] all a h = absurd h
stored_one Stored (t ∷ ts) all a (inl e) = subst (λ (x : Table). Stored x.number x.image) e all.0
stored_one Stored (t ∷ ts) all a (inr h) = stored_one Stored ts all.1 a h

stored_at : (Stored : ℕ → List ℕ → Type 0) (tables : List (List Table)) → AreLevelsStored Stored tables → (level : ℕ) (a : Table) → Has (level_in tables level) a → Stored a.number a.image
stored_at Stored [] all level a h = absurd h
stored_at Stored (ts ∷ tables) all zero a h = stored_one Stored ts all.0 a h
stored_at Stored (ts ∷ tables) all (suc level) a h = stored_at Stored tables all.1 level a h

pub placed_from : (tables : List (List Table)) (level : ℕ) (a : Table)
    → Has (level_in (placed_levels tables) level) a → Has (level_in tables level) a
placed_from [] level a h = absurd h
placed_from (ts ∷ tables) zero a h = elim (all_has ts [] a h) [ inl k ↦ k | inr none ↦ absurd none ]
placed_from (ts ∷ tables) (suc level) a h = placed_from tables level a h

-- ---- tables of a level that meet

-- the file has this range
record HasRange (f : TableFile) (r : Range) : Type 0 where
  pub smallest : IsKey f.smallest r.smallest
  pub largest : IsKey f.largest r.largest

has_range : (last : ℕ) (f : TableFile) (t : Table) (r : Range) → IsFileOf last f t → IsKey t.smallest r.smallest → IsKey t.largest r.largest → HasRange f r
has_range last f t r is s l = record { smallest = subst (λ k. IsKey k r.smallest) is.smallest s; largest = subst (λ k. IsKey k r.largest) is.largest l }

-- two files of the level meet
record Meeting (fs : List TableFile) : Type 0 where
  pub f : TableFile
  pub g : TableFile
  pub r : Range
  pub s : Range
  pub first : Has fs f
  pub later : Has fs g
  pub less : file_cmp f g ≡ Less
  pub own : HasRange f r
  pub its : HasRange g s
  pub meet : MeetInKeys r s

of_range : (last : ℕ) (fs : List TableFile) (ts : List Table) (ranges : List Range) → AreFilesOf last fs ts → AreRangesOf ts ranges → (s : Range) → Has ranges s → (g : TableFile) × Has fs g × HasRange g s
of_range last fs ts [] all are s h = absurd h
of_range last [] [] (r ∷ ranges) all are s h = absurd are
of_range last [] (t ∷ ts) (r ∷ ranges) all are s h = absurd all
of_range last (f ∷ fs) [] (r ∷ ranges) all are s h = absurd all
of_range last (f ∷ fs) (t ∷ ts) (r ∷ ranges) all are s (inl e) = (f, inl refl, subst (HasRange f) e (has_range last f t r all.0 are.0 are.1))
of_range last (f ∷ fs) (t ∷ ts) (r ∷ ranges) all are s (inr h) = (let k = of_range last fs ts ranges all.1 are.2 s h in (k.0, inr k.1, k.2))

meeting : (last : ℕ) (fs : List TableFile) (ts : List Table) (ranges : List Range) → IsStrictlySortedBy file_cmp fs → AreFilesOf last fs ts → AreRangesOf ts ranges → SomePair MeetInKeys ranges → Meeting fs
meeting last fs ts [] up all are some = absurd some
meeting last [] [] (r ∷ ranges) up all are some = absurd are
meeting last [] (t ∷ ts) (r ∷ ranges) up all are some = absurd all
meeting last (f ∷ fs) [] (r ∷ ranges) up all are some = absurd all
meeting last (f ∷ fs) (t ∷ ts) (r ∷ ranges) up all are (inl p) =
    let g = of_range last fs ts ranges all.1 are.2 p.0 p.1 in
    record {
      f = f;
      g = g.0;
      r = r;
      s = p.0;
      first = inl refl;
      later = inr g.1;
      less = below_all f fs (sorted_head file_cmp f fs up) g.0 g.1;
      own = has_range last f t r all.0 are.0 are.1;
      its = g.2;
      meet = p.2;
    }
meeting last (f ∷ fs) (t ∷ ts) (r ∷ ranges) up all are (inr some) =
    let m = meeting last fs ts ranges (sorted_tail file_cmp f fs up) all.1 are.2 some in
    record { f = m.f; g = m.g; r = m.r; s = m.s; first = inr m.first; later = inr m.later; less = m.less; own = m.own; its = m.its; meet = m.meet }

last_has : (front : List Entry) (e : Entry) (es : List Entry) → es ≡ front ++ e ∷ [] → Has es e
last_has front e es is = subst (λ (xs : List Entry). Has xs e) (sym is) (has_right front (e ∷ []) e (inl refl))

first_has : (e : Entry) (rest es : List Entry) → es ≡ e ∷ rest → Has es e
first_has e rest es is = subst (λ (xs : List Entry). Has xs e) (sym is) (inl refl)

key_over : (a b c e : InternalKey) → a ≡ b → c ≡ e → key_le b e ≡ true → key_le a c ≡ true
key_over a b c e p q le = ap (λ k. key_le k c) p ∙ (ap (key_le b) q ∙ le)

-- where all of one stands before all of the other, they do not meet
ahead_apart : (es fs : List Entry) (r s : Range) → IsRangeOf es r → IsRangeOf fs s → ((x y : Entry) → Has es x → Has fs y → Before x y) → key_le s.smallest r.largest ≡ true → ⊥
ahead_apart es fs r s a b ahead le =
    let x = a.last.1 in
    let y = b.first.0 in
    let over = before_not_first x y (ahead x y (last_has a.last.0 x es a.last.2) (first_has y b.first.1 fs b.first.2)) in
    let under = ap (λ k. key_le k (internal_key x)) b.first.3 ∙ (ap (key_le s.smallest) a.last.3 ∙ le) in
    let e : false ≡ true = sym over ∙ (first_is_le y x ∙ under) in
    cc

-- the table's range is the file's
range_is : (t : Table) (f : TableFile) (r : Range) (w : IsWhole t) → meta_of t ≡ f → HasRange f r → (w.range.smallest ≡ r.smallest) × (w.range.largest ≡ r.largest)
range_is t f r w e h = (
  IsKey-unique t.smallest w.range.smallest r.smallest w.smallest (subst (λ k. IsKey k r.smallest) (sym (ap (λ (x : TableFile). x.smallest) e)) h.smallest),
  IsKey-unique t.largest w.range.largest r.largest w.largest (subst (λ k. IsKey k r.largest) (sym (ap (λ (x : TableFile). x.largest) e)) h.largest),
)

-- ---- counts

rose : (a b c : ℕ) → a ≤ b → Rose b c → Rose a c
rose a b c le r = omega (arith, le, r)

no_rise : (a b : ℕ) → a < 2 ^ 64 - 1 → b ≡ a → Rose a b → ⊥
no_rise a b small same r = omega (arith, small, same, r)

memory_is : (fault : TableFault) → (is_memory fault ≡ false → ⊥) → IsMemory fault
memory_is fault other = memory_only {X = ℕ} fault 0 (by (is_memory fault) refl)
  where
    by : (b : Bool) → is_memory fault ≡ b → gives.FailsUnless {Y = ℕ} b fault (Ok 0)
    by true e = tt
    by false e = absurd (other e)

-- ---- a version that the folder shows

module _ (Stored : ℕ → List ℕ → Type 0) (v : Levels) (d : Disk) (was is : Told) (sound : IsSound v) (s : Shown v d) (reads : ReadsShown Stored v d was is) where
  abbrev shape : Form
  shape = s.shape

  replayed : IsReplayed s.comes.edits shape
  replayed = s.comes.replayed

  whole : IsShape shape
  whole = replayed_shape s.comes.edits shape replayed

  up : (level : ℕ) → level < length shape.levels → IsStrictlySortedBy file_cmp (get_or shape.levels level [])
  up level lt = whole.ordered level (omega (arith, lt, whole.seven))

  one_each : IsOneEach shape.levels
  one_each level other f g a b h k same = whole.numbers level other f g (omega (arith, a, whole.seven)) (omega (arith, b, whole.seven)) h k same

  -- the manifest that was read is the one that is shown
  bytes_are : (number : ℕ) (bytes : List ℕ) → Becomes (finding number bytes was) is → s.bytes ≡ bytes
  bytes_are number bytes told =
      let same : s.manifest ≡ number = texts_apart s.manifest number s.small (reads.small number bytes told) (shows_one d current_name (current_text s.manifest) (current_text number) s.current (reads.current number bytes told)) in
      shows_one d (manifest_name s.manifest) s.bytes bytes s.its (subst (λ n. Shows d (manifest_name n) bytes) (sym same) (reads.manifest number bytes told))

  -- the table of a file of the shape
  table_for : (level : ℕ) (f : TableFile) → level < length shape.levels → Has (get_or shape.levels level []) f → IsFileAt v level f
  table_for level f lt h = (s.describes.files level f (omega (arith, lt, whole.seven))).0 h

  image_is : (level : ℕ) (t : Table) (number : ℕ) (image : List ℕ) → Has (level_in v.tables level) t → t.number ≡ number → Stored number image → t.image ≡ image
  image_is level t number image h same stored = shows_one d (table_name t.number) t.image image (s.tables level t h) (reads.images level t image h (subst (λ n. Stored n image) (sym same) stored))

  number_of : (t : Table) (f : TableFile) → meta_of t ≡ f → t.number ≡ f.number
  number_of t f e = ap (λ (x : TableFile). x.number) e

  not_error : (image : List ℕ) (r : Range) (fault : TableFault) → IsRangeOf (entries_in image) r → table_at image ≡ Err fault → ⊥
  unfolding entries_in
  not_error image r fault range e = (let none : [] ≡ range.first.0 ∷ range.first.1 = sym (ap entries_or_none e) ∙ range.first.2 in cc)

  -- the file's table is what it should be
  its_image : (level : ℕ) (t : Table) (f : TableFile) → Has (level_in v.tables level) t → meta_of t ≡ f → IsImageOf shape.last f t.image
  its_image level t f h e =
      let w = sound.tables level t h in
      record {
        table = w.table;
        size = ap (λ (x : TableFile). x.size) e;
        spanned = record {
          range = w.range;
          first = subst (λ k. IsKey k w.range.smallest) (ap (λ (x : TableFile). x.smallest) e) w.smallest;
          end = subst (λ k. IsKey k w.range.largest) (ap (λ (x : TableFile). x.largest) e) w.largest;
          spans = w.entries;
          reached = λ x k. subst (λ n. x.seq ≤ n) (sym s.describes.last) (sound.reached (file_of (0 + level) t) x (in_files 0 v.tables level t h) k);
        };
      }

  -- ---- a file is not refused

  module _ (P : ShelfFault → Type 0) (counts : (fault : ShelfFault) → Counted fault was is → P fault) where
    of_table : (fault : TableFault) (f : TableFile) (level : ℕ) (t : Table) → Has (level_in v.tables level) t → meta_of t ≡ f
        → (is_memory fault ≡ false → (image : List ℕ) × Stored f.number image × (table_at image ≡ Err fault)) → IsMemory fault
    of_table fault f level t h e why = memory_is fault (λ x. fails (why x))
      where
        fails : (image : List ℕ) × Stored f.number image × (table_at image ≡ Err fault) → ⊥
        fails w =
            let same = image_is level t f.number w.0 h (number_of t f e) w.1 in
            let whole_table = sound.tables level t h in
            not_error t.image whole_table.range fault whole_table.entries (subst (λ (b : List ℕ). table_at b ≡ Err fault) (sym same) w.2)

    of_file : (e : CheckFault) (Refused : ShelfFault → Type 0) (f : TableFile) (level : ℕ) (t : Table) → Has (level_in v.tables level) t → meta_of t ≡ f
        → CheckCounted e was is → IsFileRefusal (Stored f.number) Refused shape.last f e → IsNotTheTables P e
    of_file (check.Read file (read.Shelf fault)) Refused f level t h e c r = counts fault c.1
    of_file (check.Read file (read.Table fault)) Refused f level t h e c r = of_table fault f level t h e r.1
    of_file (check.WrongRange number) Refused f level t h e c r =
        let same = image_is level t f.number r.1.0 h (number_of t f e) r.1.1 in
        absurd (r.1.3 (subst (IsImageOf shape.last f) same (its_image level t f h e)))
    of_file (check.DoubleFile number) Refused f level t h e c r = absurd r
    of_file (check.Overlap level_of) Refused f level t h e c r = absurd r
    of_file (check.AgeOrder user) Refused f level t h e c r = absurd r

    of_want : (file : Option ℕ) (fault : ReadFault) → NamesNone file fault → IsNotTheTables P (check.Read file fault)
    of_want None (read.Shelf fault) r = absurd r
    of_want None (read.Table fault) r = r
    of_want (Some number) fault r = absurd r

    of_memory : (e : CheckFault) → IsMemoryRefusal e → IsNotTheTables P e
    of_memory (check.Read file fault) r = of_want file fault r
    of_memory (check.WrongRange number) r = absurd r
    of_memory (check.DoubleFile number) r = absurd r
    of_memory (check.Overlap level) r = absurd r
    of_memory (check.AgeOrder user) r = absurd r

    of_files : (e : CheckFault) (Refused : ℕ → ShelfFault → Type 0) → CheckCounted e was is → IsFilesRefusal Stored Refused shape.last (all_files shape.levels) e → IsNotTheTables P e
    of_files e Refused c (inl r) = of_memory e r
    of_files e Refused c (inr r) =
        let f = r.1 in
        let here = level_of_file shape.levels f (subst (λ (fs : List TableFile). Has fs f) (sym r.3) (has_right r.0 (f ∷ r.2) f (inl refl))) in
        let t = table_for here.0 f here.1 here.2 in
        of_file e (Refused f.number) f here.0 t.0 t.1 t.2 c r.5

    -- ---- nor are the tables together

    -- what was read for a level are the version's tables
    own_file : (tables : List (List Table)) → AreTablesOf Stored shape tables → (F : File) → Has (files_from 0 tables) F → Has (files v) F
    own_file tables a F h =
        let at = file_in 0 tables F h in
        let level = at.0 in
        let t = at.1 in
        let here = placed_from a.read level t (subst (λ (ts : List (List Table)). Has (level_in ts level) t) a.placed at.2) in
        let f = file_for shape.last (get_or shape.levels level []) (level_in a.read level) (at_level shape.last shape.levels a.read a.files level) t here in
        let lt : level < length shape.levels = omega (arith, inside a.read level t here, as_many shape.last shape.levels a.read a.files) in
        let u = table_for level f.0 lt f.1 in
        let number : u.0.number ≡ t.number = number_of u.0 f.0 u.2 ∙ sym f.2.number in
        let image = image_is level u.0 t.number t.image u.1 number (stored_at Stored a.read a.stored level t here) in
        let same : file_of (0 + level) u.0 ≡ file_of (0 + level) t = same_file (0 + level) u.0 t number (ap (λ (x : TableFile). x.smallest) u.2 ∙ sym f.2.smallest) (ap (λ (x : TableFile). x.largest) u.2 ∙ sym f.2.largest) image in
        subst (Has (files v)) (same ∙ at.3) (in_files 0 v.tables level u.0 u.1)

    of_age : (e : CheckFault) (honest : Type 0) → honest → CheckCounted e was is → IsAgainRefusal Stored honest shape e → IsNotTheTables P e
    of_age (check.Read file (read.Shelf fault)) honest fair c r = counts fault c.1
    of_age (check.Read file (read.Table fault)) honest fair c r = r.3.1 fair
    of_age (check.AgeOrder user) honest fair c r =
        let w = (r.3.1 fair).here in
        let older = sound.lawful.depth w.0 w.1 w.2 w.3 (own_file r.0 r.1 w.0 w.4) (own_file r.0 r.1 w.1 w.5) w.6 w.7 w.8 (w.9 ∙ sym w.10) in
        omega (arith, older, w.11)
    of_age (check.DoubleFile number) honest fair c r = absurd r.3
    of_age (check.Overlap level) honest fair c r = absurd r.3
    of_age (check.WrongRange number) honest fair c r = absurd r.3

    of_layout : (law : (x : Form) (w : Levels) → IsOfShape x w → AreInFileOrder x.levels → AreLevelsOf x.last x.levels w.tables)
        → (tables : List (List Table)) (level : ℕ) → AreTablesOf Stored shape tables → IsLayoutRefusal tables (check.Overlap level) → ⊥
    of_layout law tables level a r =
        let w : Levels = record { tables = tables; pointers = shape.pointers; last = shape.last } in
        let are = law shape w record { read = a.read; files = a.files; placed = a.placed; pointers = refl; last = refl } (in_file_order shape.levels up) in
        let lt : level < length shape.levels = omega (arith, r.1, whole.seven) in
        let m = meeting shape.last (get_or shape.levels level []) (level_in tables level) r.2.0 (up level lt) (at_level shape.last shape.levels tables are level) r.2.1 r.2.2 in
        let t = table_for level m.f lt m.first in
        let u = table_for level m.g lt m.later in
        let apart : t.0.number ≡ u.0.number → ⊥ = λ same. not_itself m.f m.g m.less (one_each level level m.f m.g lt lt m.first m.later (sym (number_of t.0 m.f t.2) ∙ (same ∙ number_of u.0 m.g u.2))).1 in
        let x = sound.tables level t.0 t.1 in
        let y = sound.tables level u.0 u.1 in
        let own = range_is t.0 m.f m.r x t.2 m.own in
        let its = range_is u.0 m.g m.s y u.2 m.its in
        elim (sound.lawful.in_order (file_of (0 + level) t.0) (file_of (0 + level) u.0) (in_files 0 v.tables level t.0 t.1) (in_files 0 v.tables level u.0 u.1) refl (omega (arith, r.0)) apart) [
          | inl ahead ↦ ahead_apart (entries_in t.0.image) (entries_in u.0.image) x.range y.range x.entries y.entries ahead (key_over y.range.smallest m.s.smallest x.range.largest m.r.largest its.0 own.1 m.meet.1)
          | inr ahead ↦ ahead_apart (entries_in u.0.image) (entries_in t.0.image) y.range x.range y.entries x.entries ahead (key_over x.range.smallest m.r.smallest y.range.largest m.s.largest own.0 its.1 m.meet.0)
        ]

    -- ---- nor is the opening

    of_check : (law : (x : Form) (w : Levels) → IsOfShape x w → AreInFileOrder x.levels → AreLevelsOf x.last x.levels w.tables)
        → (e : CheckFault) (Refused : ℕ → ShelfFault → Type 0) (honest : Type 0) → honest → CheckCounted e was is → IsRefusal Stored Refused honest shape e → IsNotTheTables P e
    of_check law (check.DoubleFile number) Refused honest fair c r = absurd (two_in number shape.levels up one_each r.twice)
    of_check law (check.Read file fault) Refused honest fair c (inl r) = of_want file fault r
    of_check law (check.Read file fault) Refused honest fair c (inr (inl r)) = of_files (check.Read file fault) Refused c r.1
    of_check law (check.Read file fault) Refused honest fair c (inr (inr r)) = of_age (check.Read file fault) honest fair c r
    of_check law (check.WrongRange number) Refused honest fair c r = of_files (check.WrongRange number) Refused c r.1
    of_check law (check.Overlap level) Refused honest fair c r = absurd (of_layout law r.0 level r.1 r.2)
    of_check law (check.AgeOrder user) Refused honest fair c r = of_age (check.AgeOrder user) honest fair c r

    of_recover : (e : RecoverFault) (Refused : Asked → ShelfFault → Type 0) → IsRecoverRefusal Refused e was is → IsNotTheManifest P e
    of_recover (recover.Shelf fault) Refused r = counts fault r.2
    of_recover (recover.Log fault) Refused r =
        let same = bytes_are r.1.0 r.0 r.1.1 in
        not_log fault s.bytes s.comes.manifest.records s.comes.rest s.comes.manifest.log (subst (λ (b : List ℕ). log_view.Fails fault (log_at b)) (sym same) r.2)
    of_recover (recover.Edit fault) Refused r =
        let same = bytes_are r.1.0 r.0 r.1.1 in
        let why = r.2.3 in
        let records = records_are s.bytes s.comes.manifest.records r.2.0 s.comes.rest r.2.1 s.comes.manifest.log (subst (λ (b : List ℕ). IsLog b r.2.0 r.2.1) (sym same) r.2.2) in
        let one = edit_in why.front why.one why.back s.comes.edits (subst (λ (rs : List (List ℕ)). AreEdits rs s.comes.edits) (records ∙ why.parts) s.comes.manifest.spelled) in
        not_edit fault why.one one.0 one.1 why.fault
    of_recover (recover.Replay fault) Refused r =
        let same = bytes_are r.1.0 r.0 r.1.1 in
        let edits = (one_manifest s.bytes r.2.0 s.comes.edits r.2.1 s.comes.rest (subst (λ (b : List ℕ). IsManifest b r.2.0 r.2.1) (sym same) r.2.2) s.comes.manifest).0 in
        refused_none s.comes.edits shape fault replayed (subst (λ (es : List Change). IsRefused es fault) edits r.2.3)

    of_find : (law : (x : Form) (w : Levels) → IsOfShape x w → AreInFileOrder x.levels → AreLevelsOf x.last x.levels w.tables)
        → (e : OpenFault) (Refused : Asked → ShelfFault → Type 0) (honest : Type 0) → honest → IsFindRefusal Stored Refused honest e was is → IsNotWhatWasFound P e
    of_find law (opening.Recover e) Refused honest fair r = of_recover e Refused r
    of_find law (opening.Check e) Refused honest fair r =
        let same = bytes_are r.held.number r.held.bytes r.told in
        let edits = (one_manifest s.bytes r.recovered.edits s.comes.edits r.rest s.comes.rest (subst (λ (b : List ℕ). IsManifest b r.recovered.edits r.rest) (sym same) r.recovered.manifest) s.comes.manifest).0 in
        let one = one_shape s.comes.edits r.shape shape (subst (λ (es : List Change). IsReplayed es r.shape) edits r.recovered.replayed) replayed in
        of_check law e (λ number. Refused (Load number)) honest fair r.cause (subst (λ (x : Form). IsRefusal Stored (λ number. Refused (Load number)) honest x e) one r.why)
    of_find law (opening.Shelf e) Refused honest fair r = counts e r.cause.1
    of_find law opening.NumbersSpent Refused honest fair r = tt
    of_find law opening.OutOfMemory Refused honest fair r = tt

    later_counted : (fault : ShelfFault) (mid : Told) → was.faults ≤ mid.faults → was.misses ≤ mid.misses → Counted fault mid is → Counted fault was is
    later_counted shelf.OutOfMemory mid f m c = tt
    later_counted shelf.Device mid f m c = rose was.faults mid.faults is.faults f c
    later_counted shelf.Missing mid f m c = rose was.misses mid.misses is.misses m c
    later_counted (shelf.Taken n) mid f m c = rose was.misses mid.misses is.misses m c

    of_start : (e : OpenFault) (Refused : Asked → ShelfFault → Type 0) (honest : Type 0) (limit : ManifestLimit) → IsStartRefusal Refused honest limit e was is → IsNotWhatWasFound P e
    of_start (opening.Shelf e) Refused honest limit r = counts e (later_counted e r.read r.found.told.faults r.found.told.misses r.cause.1)
    of_start opening.NumbersSpent Refused honest limit r = tt
    of_start (opening.Recover e) Refused honest limit r = absurd r
    of_start (opening.Check e) Refused honest limit r = absurd r
    of_start opening.OutOfMemory Refused honest limit r = absurd r

  pub not_found : (P : ShelfFault → Type 0) → ((fault : ShelfFault) → Counted fault was is → P fault) → ((x : Form) (w : Levels) → IsOfShape x w → AreInFileOrder x.levels → AreLevelsOf x.last x.levels w.tables)
      → (e : OpenFault) (Refused : Asked → ShelfFault → Type 0) (honest : Type 0) → honest → IsFindRefusal Stored Refused honest e was is → IsNotWhatWasFound P e
  not_found P counts law e Refused honest fair r = of_find P counts law e Refused honest fair r

  pub not_opened : (P : ShelfFault → Type 0) → ((fault : ShelfFault) → Counted fault was is → P fault) → ((x : Form) (w : Levels) → IsOfShape x w → AreInFileOrder x.levels → AreLevelsOf x.last x.levels w.tables)
      → (e : OpenFault) (Refused : Asked → ShelfFault → Type 0) (honest : Type 0) (limit : ManifestLimit) → honest → IsOpenRefusal Stored Refused honest limit e was is → IsNotWhatWasFound P e
  not_opened P counts law e Refused honest limit fair (inl r) = of_find P counts law e Refused honest fair r
  not_opened P counts law e Refused honest limit fair (inr r) = of_start P counts e Refused honest limit r

-- where nothing is missing or taken, the device failed
pub device_failed : (was is : Told) → was.misses < 2 ^ 64 - 1 → is.misses ≡ was.misses → (fault : ShelfFault) → Counted fault was is → IsWantOrDevice fault
device_failed was is small same shelf.OutOfMemory c = tt
device_failed was is small same shelf.Device c = tt
device_failed was is small same shelf.Missing c = absurd (no_rise was.misses is.misses small same c)
device_failed was is small same (shelf.Taken n) c = absurd (no_rise was.misses is.misses small same c)
