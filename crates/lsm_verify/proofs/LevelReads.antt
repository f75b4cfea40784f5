-- The files of a shape, as they are read one after another.
use Rattle.std.proofs.Common.{◌≡◌, ℕ, zero, suc, ◌+◌, ◌<◌, List, [], ◌∷◌, ◌++◌, length, get_or, take, drop, refl, sym, ◌∙◌, ap, subst, inl, inr, append_assoc}
use Rattle.std.specs.List.{insert}
use Rattle.std.specs.List.Sorted.{IsSortedBy}
use Rattle.std.proofs.lemmas.List.{take_more, take-append-drop}
use Rattle.lsm_codec.specs.Lists.{Has}
use Rattle.lsm_codec.proofs.CallerLemmas.{contains_says, has_cases}
use Rattle.lsm_shelf.specs.declared.shelf_fault.ShelfFault.{ShelfFault}
use Rattle.lsm_table.specs.Registry.{Table}
use Rattle.lsm_table.specs.HeldTable.{entries_in}
use Rattle.lsm_manifest.specs.FileOrder.{TableFile}
use Rattle.lsm_version.specs.Changes.{placed_in, placed_all}
use Rattle.lsm_verify.specs.CheckedFiles.{IsFileOf}
use Rattle.lsm_version.specs.Versions.{stands_before, AreInOrder}
use Rattle.lsm_verify.specs.Settled.{AreSequencesOf, AreSequences, AreLevelSequences}
use Rattle.lsm_verify.specs.declared.sequences.Sequences.{Sequences}
use Rattle.lsm_verify.specs.Loading.{AreFilesOf, AreStored, AreLevelsOf, AreLevelsStored, placed_levels, IsLevelRead, AreRead, all_files}
use Rattle.lsm_verify.specs.FileRefusal.{IsFileRefusal, IsFilesRefusal, IsGood}
use Rattle.lsm_verify.specs.declared.check_fault.CheckFault.{CheckFault}

pub has_at : {X : Type 0} (xs : List X) (i : ℕ) (x : X) → i < length xs → x ≡ get_or xs i x → Has xs x
has_at xs i x lt e = contains_says xs x (i, lt, sym e)

-- ---- one more file of a level

placed_push : (ts us : List Table) (t : Table) → placed_all (ts ++ t ∷ []) us ≡ placed_in t (placed_all ts us)
placed_push [] us t = refl
placed_push (x ∷ ts) us t = placed_push ts (placed_in x us) t

files_push : (last : ℕ) (files : List TableFile) (ts : List Table) (file : TableFile) (t : Table) → AreFilesOf last files ts → IsFileOf last file t → AreFilesOf last (files ++ file ∷ []) (ts ++ t ∷ [])
files_push last [] [] file t a f = (f, tt)
files_push last [] (u ∷ ts) file t a f = absurd a
files_push last (g ∷ files) [] file t a f = absurd a
files_push last (g ∷ files) (u ∷ ts) file t a f = (a.0, files_push last files ts file t a.1 f)

stored_push : (Stored : ℕ → List ℕ → Type 0) (ts : List Table) (t : Table) → AreStored Stored ts → Stored t.number t.image → AreStored Stored (ts ++ t ∷ [])
stored_push Stored [] t a s = (s, tt)
stored_push Stored (u ∷ ts) t a s = (a.0, stored_push Stored ts t a.1 s)

pub level_start : (Stored : ℕ → List ℕ → Type 0) (last : ℕ) (files : List TableFile) → IsLevelRead Stored last (take 0 files) [] []
level_start Stored last files = record { read = []; are = tt; stored = tt; placed = refl; sequences = tt }

pub level_more : (Stored : ℕ → List ℕ → Type 0) (last : ℕ) (files : List TableFile) (i : ℕ) (file : TableFile) (t : Table) (tables tables' : List Table) (spans spans' : List Sequences)
    → i < length files → file ≡ get_or files i file → IsFileOf last file t → Stored t.number t.image → tables' ≡ placed_in t tables → AreSequences tables' spans'
    → IsLevelRead Stored last (take i files) tables spans → IsLevelRead Stored last (take (i + 1) files) tables' spans'
level_more Stored last files i file t tables tables' spans spans' lt at is stored placed beside r = record {
  read = r.read ++ t ∷ [];
  are = subst (λ fs. AreFilesOf last fs (r.read ++ t ∷ [])) (ap (λ f. take i files ++ f ∷ []) at ∙ sym (take_more files i file lt)) (files_push last (take i files) r.read file t r.are is);
  stored = stored_push Stored r.read t r.stored stored;
  placed = placed ∙ ap (placed_in t) r.placed ∙ sym (placed_push r.read [] t);
  sequences = beside;
}

-- ---- sequences beside tables

split_beside : (n : ℕ) (ts : List Table) (ss : List Sequences) → AreSequences ts ss → AreSequences (take n ts) (take n ss) × AreSequences (drop n ts) (drop n ss)
split_beside zero ts ss a = (tt, a)
split_beside (suc n) [] [] a = (tt, tt)
split_beside (suc n) [] (s ∷ ss) a = absurd a
split_beside (suc n) (t ∷ ts) [] a = absurd a
split_beside (suc n) (t ∷ ts) (s ∷ ss) a = (let r = split_beside n ts ss a.1 in ((a.0, r.0), r.1))

joined_beside : (ts us : List Table) (ss rs : List Sequences) → AreSequences ts ss → AreSequences us rs → AreSequences (ts ++ us) (ss ++ rs)
joined_beside [] us [] rs a b = b
joined_beside [] us (s ∷ ss) rs a b = absurd a
joined_beside (t ∷ ts) us [] rs a b = absurd a
joined_beside (t ∷ ts) us (s ∷ ss) rs a b = (a.0, joined_beside ts us ss rs a.1 b)

-- a table and its sequences put into one place
pub inserted_beside : (n : ℕ) (ts : List Table) (ss : List Sequences) (t : Table) (s : Sequences) → AreSequences ts ss → AreSequencesOf (entries_in t.image) s
    → AreSequences (insert ts n t) (insert ss n s)
inserted_beside n ts ss t s a own =
    let r = split_beside n ts ss a in
    joined_beside (take n ts) (t ∷ drop n ts) (take n ss) (s ∷ drop n ss) r.0 (own, r.1)

pub length_beside : (ts : List Table) (ss : List Sequences) → AreSequences ts ss → length ss ≡ length ts
length_beside [] [] a = refl
length_beside [] (s ∷ ss) a = absurd a
length_beside (t ∷ ts) [] a = absurd a
length_beside (t ∷ ts) (s ∷ ss) a = ap suc (length_beside ts ss a.1)

pub levels_beside_push : (levels : List (List Table)) (spans : List (List Sequences)) (ts : List Table) (ss : List Sequences) → AreLevelSequences levels spans → AreSequences ts ss
    → AreLevelSequences (levels ++ ts ∷ []) (spans ++ ss ∷ [])
levels_beside_push [] [] ts ss a b = (b, tt)
levels_beside_push [] (rs ∷ spans) ts ss a b = absurd a
levels_beside_push (us ∷ levels) [] ts ss a b = absurd a
levels_beside_push (us ∷ levels) (rs ∷ spans) ts ss a b = (a.0, levels_beside_push levels spans ts ss a.1 b)

-- ---- a refusal of one of the files

good_all : (Stored : ℕ → List ℕ → Type 0) (last : ℕ) (files : List TableFile) (ts : List Table) → AreFilesOf last files ts → AreStored Stored ts
    → (f : TableFile) → Has files f → IsGood Stored last f
good_all Stored last [] ts a s f h = absurd h
good_all Stored last (g ∷ files) [] a s f h = absurd a
good_all Stored last (g ∷ files) (t ∷ ts) a s f (inl e) =
    subst (IsGood Stored last) e (t.image, subst (λ (n : ℕ). Stored n t.image) a.0.number s.0, a.0.image)
good_all Stored last (g ∷ files) (t ∷ ts) a s f (inr h) = good_all Stored last files ts a.1 s.1 f h

around : {X : Type 0} (xs : List X) (i : ℕ) (x : X) → i < length xs → x ≡ get_or xs i x → xs ≡ take i xs ++ x ∷ drop (i + 1) xs
around xs i x lt at =
    sym (take-append-drop (i + 1) xs) ∙ ap (λ front. front ++ drop (i + 1) xs) (take_more xs i x lt)
    ∙ append_assoc (take i xs) (get_or xs i x ∷ []) (drop (i + 1) xs) ∙ ap (λ y. take i xs ++ y ∷ drop (i + 1) xs) (sym at)

pub refused_at : (Stored : ℕ → List ℕ → Type 0) (Refused : ℕ → ShelfFault → Type 0) (last : ℕ) (files : List TableFile) (i : ℕ) (file : TableFile) (fault : CheckFault) (tables : List Table) (spans : List Sequences)
    → i < length files → file ≡ get_or files i file → IsLevelRead Stored last (take i files) tables spans
    → IsFileRefusal (Stored file.number) (Refused file.number) last file fault → IsFilesRefusal Stored Refused last files fault
refused_at Stored Refused last files i file fault tables spans lt at read r =
    inr (take i files, file, drop (i + 1) files, around files i file lt at, good_all Stored last (take i files) read.read read.are read.stored, r)

-- ---- one more level

levels_push : (last : ℕ) (shape : List (List TableFile)) (levels : List (List Table)) (files : List TableFile) (ts : List Table)
    → AreLevelsOf last shape levels → AreFilesOf last files ts → AreLevelsOf last (shape ++ files ∷ []) (levels ++ ts ∷ [])
levels_push last [] [] files ts a f = (f, tt)
levels_push last [] (us ∷ levels) files ts a f = absurd a
levels_push last (gs ∷ shape) [] files ts a f = absurd a
levels_push last (gs ∷ shape) (us ∷ levels) files ts a f = (a.0, levels_push last shape levels files ts a.1 f)

levels_stored_push : (Stored : ℕ → List ℕ → Type 0) (levels : List (List Table)) (ts : List Table) → AreLevelsStored Stored levels → AreStored Stored ts → AreLevelsStored Stored (levels ++ ts ∷ [])
levels_stored_push Stored [] ts a s = (s, tt)
levels_stored_push Stored (us ∷ levels) ts a s = (a.0, levels_stored_push Stored levels ts a.1 s)

placed_levels_push : (levels : List (List Table)) (ts : List Table) → placed_levels (levels ++ ts ∷ []) ≡ placed_levels levels ++ placed_all ts [] ∷ []
placed_levels_push [] ts = refl
placed_levels_push (us ∷ levels) ts = ap (λ (ls : List (List Table)). placed_all us [] ∷ ls) (placed_levels_push levels ts)

pub same_length : (last : ℕ) (shape : List (List TableFile)) (levels : List (List Table)) → AreLevelsOf last shape levels → length levels ≡ length shape
same_length last [] [] a = refl
same_length last [] (ts ∷ levels) a = absurd a
same_length last (fs ∷ shape) [] a = absurd a
same_length last (fs ∷ shape) (ts ∷ levels) a = ap suc (same_length last shape levels a.1)

pub levels_more : (Stored : ℕ → List ℕ → Type 0) (last : ℕ) (shape : List (List TableFile)) (n : ℕ) (files : List TableFile)
    (tables : List (List Table)) (ts : List Table) (spans : List (List Sequences)) (ss : List Sequences) → n < length shape → files ≡ get_or shape n files
    → IsLevelRead Stored last files ts ss → AreRead Stored last (take n shape) tables spans → AreRead Stored last (take (n + 1) shape) (tables ++ ts ∷ []) (spans ++ ss ∷ [])
levels_more Stored last shape n files tables ts spans ss lt at level r = record {
  read = r.read ++ level.read ∷ [];
  are = subst (λ fs. AreLevelsOf last fs (r.read ++ level.read ∷ [])) (ap (λ (f : List TableFile). take n shape ++ f ∷ []) at ∙ sym (take_more shape n files lt))
      (levels_push last (take n shape) r.read files level.read r.are level.are);
  stored = levels_stored_push Stored r.read level.read r.stored level.stored;
  placed = ap (λ (ls : List (List Table)). ls ++ ts ∷ []) r.placed ∙ ap (λ (us : List Table). placed_levels r.read ++ us ∷ []) level.placed ∙ sym (placed_levels_push r.read level.read);
  sequences = levels_beside_push tables spans ts ss r.sequences level.sequences;
}

pub order_push : (levels : List (List Table)) (ts : List Table) → AreInOrder levels → IsSortedBy stands_before ts → AreInOrder (levels ++ ts ∷ [])
order_push [] ts a s = (s, tt)
order_push (us ∷ levels) ts a s = (a.0, order_push levels ts a.1 s)

all_append : (shape more : List (List TableFile)) → all_files (shape ++ more) ≡ all_files shape ++ all_files more
all_append [] more = refl
all_append (files ∷ shape) more = ap (λ (fs : List TableFile). files ++ fs) (all_append shape more) ∙ sym (append_assoc files (all_files shape) (all_files more))

good_levels : (Stored : ℕ → List ℕ → Type 0) (last : ℕ) (shape : List (List TableFile)) (levels : List (List Table)) → AreLevelsOf last shape levels → AreLevelsStored Stored levels
    → (f : TableFile) → Has (all_files shape) f → IsGood Stored last f
good_levels Stored last [] levels a s f h = absurd h
good_levels Stored last (files ∷ shape) [] a s f h = absurd a
good_levels Stored last (files ∷ shape) (ts ∷ levels) a s f h = elim (has_cases files (all_files shape) f h) [
  | inl here ↦ good_all Stored last files ts a.0 s.0 f here
  | inr there ↦ good_levels Stored last shape levels a.1 s.1 f there
]

good_append : (Stored : ℕ → List ℕ → Type 0) (last : ℕ) (front more : List TableFile) → ((f : TableFile) → Has front f → IsGood Stored last f)
    → ((f : TableFile) → Has more f → IsGood Stored last f) → (f : TableFile) → Has (front ++ more) f → IsGood Stored last f
good_append Stored last front more good others f h = elim (has_cases front more f h) [
  | inl here ↦ good f here
  | inr there ↦ others f there
]

pub refused_in : (Stored : ℕ → List ℕ → Type 0) (Refused : ℕ → ShelfFault → Type 0) (last : ℕ) (shape : List (List TableFile)) (n : ℕ) (files : List TableFile) (fault : CheckFault) (tables : List (List Table)) (spans : List (List Sequences))
    → n < length shape → files ≡ get_or shape n files → AreRead Stored last (take n shape) tables spans
    → IsFilesRefusal Stored Refused last files fault → IsFilesRefusal Stored Refused last (all_files shape) fault
refused_in Stored Refused last shape n files fault tables spans lt at read (inl want) = inl want
refused_in Stored Refused last shape n files fault tables spans lt at read (inr (front, file, back, is, good, r)) =
    let before = all_files (take n shape) in
    let behind = all_files (drop (n + 1) shape) in
    let whole : all_files shape ≡ before ++ (files ++ behind) = ap all_files (around shape n files lt at) ∙ all_append (take n shape) (files ∷ drop (n + 1) shape) in
    let parted : before ++ (files ++ behind) ≡ (before ++ front) ++ file ∷ (back ++ behind) =
    ap (λ (fs : List TableFile). before ++ (fs ++ behind)) is ∙ ap (λ (fs : List TableFile). before ++ fs) (append_assoc front (file ∷ back) behind)
    ∙ sym (append_assoc before front (file ∷ (back ++ behind))) in
    inr (
      before ++ front,
      file,
      back ++ behind,
      whole ∙ parted,
      good_append Stored last before front (good_levels Stored last (take n shape) read.read read.are read.stored) good,
      r,
    )
