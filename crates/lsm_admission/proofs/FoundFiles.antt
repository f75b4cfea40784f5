-- The files of a shape, as they are found one after another.
use Rattle.std.proofs.Common.{◌≡◌, ℕ, suc, ◌+◌, ◌<◌, List, [], ◌∷◌, ◌++◌, length, get_or, take}
use Rattle.std.proofs.Common.{drop, refl, sym, ◌∙◌, ap, subst, inl, inr, append_assoc}
use Rattle.std.specs.List.Sorted.{IsSortedBy}
use Rattle.std.proofs.lemmas.List.{take_more, take-append-drop}
use Rattle.lsm_codec.specs.Lists.{Has}
use Rattle.lsm_codec.proofs.CallerLemmas.{has_cases}
use Rattle.lsm_shelf.specs.declared.shelf_fault.ShelfFault.{ShelfFault}
use Rattle.lsm_table.specs.Registry.{Table}
use Rattle.lsm_manifest.specs.FileOrder.{TableFile}
use Rattle.lsm_version.specs.Changes.{placed_in, placed_all}
use Rattle.lsm_version.specs.Versions.{stands_before, AreInOrder}
use Rattle.lsm_version.proofs.CallerLemmas.{all_has}
use Rattle.lsm_verify.specs.Loading.{placed_levels, all_files}
use Rattle.lsm_verify.specs.declared.check_fault.CheckFault.{CheckFault}
use Rattle.lsm_admission.specs.FoundTables.{IsBounds, AreBounded, AreLevelsBounded, IsFoundFor}
use Rattle.lsm_admission.specs.FoundTables.{AreFoundFor, AreLevelsFound, IsLevelFound, AreFound}
use Rattle.lsm_admission.specs.AdmitRefusal.{IsThere, IsFileRefusal, IsFilesRefusal}

-- ---- one more file of a level

placed_push : (ts us : List Table) (t : Table) → placed_all (ts ++ t ∷ []) us ≡ placed_in t
    (placed_all ts us)
placed_push [] us t = refl
placed_push (x ∷ ts) us t = placed_push ts (placed_in x us) t

files_push : (Keeps : ℕ → List ℕ → Type 0) (files : List TableFile) (ts : List Table)
    (file : TableFile) (t : Table) → AreFoundFor Keeps files ts → IsFoundFor Keeps file t
    → AreFoundFor Keeps (files ++ file ∷ []) (ts ++ t ∷ [])
files_push Keeps [] [] file t a f = (f, tt)
files_push Keeps [] (u ∷ ts) file t a f = absurd a
files_push Keeps (g ∷ files) [] file t a f = absurd a
files_push Keeps (g ∷ files) (u ∷ ts) file t a f = (a.0, files_push Keeps files ts file t a.1 f)

pub level_start : (Keeps : ℕ → List ℕ → Type 0) (files : List TableFile)
    → IsLevelFound Keeps (take 0 files) []
level_start Keeps files = record { found = []; are = tt; placed = refl }

pub level_more : (Keeps : ℕ → List ℕ → Type 0) (files : List TableFile) (i : ℕ) (file : TableFile)
    (t : Table) (tables tables' : List Table) → i < length files → file ≡ get_or files i file
    → IsFoundFor Keeps file t → tables' ≡ placed_in t tables → IsLevelFound Keeps (take i files)
    tables → IsLevelFound Keeps (take (i + 1) files) tables'
level_more Keeps files i file t tables tables' lt at is placed r = record {
  found = r.found ++ t ∷ [];
  are = subst (λ fs. AreFoundFor Keeps fs (r.found ++ t ∷ [])) (ap (λ f. take i files ++ f ∷ []) at
      ∙ sym (take_more files i file lt)) (files_push Keeps (take i files) r.found file t r.are is);
  placed = placed ∙ ap (placed_in t) r.placed ∙ sym (placed_push r.found [] t);
}

-- ---- a refusal of one of the files

there_is : (Keeps : ℕ → List ℕ → Type 0) (file : TableFile) (t : Table) → IsFoundFor Keeps file t
    → IsThere Keeps file
there_is Keeps file t i = record {
  bounds = i.bounds;
  image = t.image;
  kept = subst
      (λ (n : ℕ). Keeps n t.image) i.number i.kept;
  size = i.size;
}

there_all : (Keeps : ℕ → List ℕ → Type 0) (files : List TableFile) (ts : List Table)
    → AreFoundFor Keeps files ts → (f : TableFile) → Has files f → IsThere Keeps f
there_all Keeps [] ts a f h = absurd h
there_all Keeps (g ∷ files) [] a f h = absurd a
there_all Keeps (g ∷ files) (t ∷ ts) a f (inl e) = subst (IsThere Keeps) e (there_is Keeps g t a.0)
there_all Keeps (g ∷ files) (t ∷ ts) a f (inr h) = there_all Keeps files ts a.1 f h

pub around : {X : Type 0} (xs : List X) (i : ℕ) (x : X) → i < length xs → x ≡ get_or xs i x
    → xs ≡ take i xs ++ x ∷ drop (i + 1) xs
around xs i x lt at =
    sym (take-append-drop (i + 1) xs) ∙ ap (λ front. front ++ drop (i + 1) xs) (take_more xs i x lt)
    ∙ append_assoc (take i xs) (get_or xs i x ∷ []) (drop (i + 1) xs)
    ∙ ap (λ y. take i xs ++ y ∷ drop (i + 1) xs) (sym at)

pub refused_at : (Keeps : ℕ → List ℕ → Type 0) (Refused : ℕ → ShelfFault → Type 0)
    (files : List TableFile) (i : ℕ) (file : TableFile) (fault : CheckFault) (tables : List Table)
    → i < length files → file ≡ get_or files i file → IsLevelFound Keeps (take i files) tables
    → IsFileRefusal (Keeps file.number) (Refused file.number) file fault
    → IsFilesRefusal Keeps Refused files fault
refused_at Keeps Refused files i file fault tables lt at found r =
    inr (
      take i files,
      file,
      drop (i + 1) files,
      around files i file lt at,
      there_all Keeps
          (take i files) found.found found.are,
      r,
    )

-- ---- one more level

levels_push : (Keeps : ℕ → List ℕ → Type 0) (shape : List (List TableFile))
    (levels : List (List Table)) (files : List TableFile) (ts : List Table)
    → AreLevelsFound Keeps shape levels → AreFoundFor Keeps files ts
    → AreLevelsFound Keeps (shape ++ files ∷ []) (levels ++ ts ∷ [])
levels_push Keeps [] [] files ts a f = (f, tt)
levels_push Keeps [] (us ∷ levels) files ts a f = absurd a
levels_push Keeps (gs ∷ shape) [] files ts a f = absurd a
levels_push Keeps (gs ∷ shape) (us ∷ levels) files ts a f = (
  a.0,
  levels_push Keeps shape levels
      files ts a.1 f,
)

placed_levels_push : (levels : List (List Table)) (ts : List Table)
    → placed_levels (levels ++ ts ∷ []) ≡ placed_levels levels ++ placed_all ts [] ∷ []
placed_levels_push [] ts = refl
placed_levels_push (us ∷ levels) ts = ap (λ (ls : List (List Table)). placed_all us [] ∷ ls)
    (placed_levels_push levels ts)

pub same_length : (Keeps : ℕ → List ℕ → Type 0) (shape : List (List TableFile))
    (levels : List (List Table)) → AreLevelsFound Keeps shape levels → length levels ≡ length shape
same_length Keeps [] [] a = refl
same_length Keeps [] (ts ∷ levels) a = absurd a
same_length Keeps (fs ∷ shape) [] a = absurd a
same_length Keeps (fs ∷ shape) (ts ∷ levels) a = ap suc (same_length Keeps shape levels a.1)

pub levels_start : (Keeps : ℕ → List ℕ → Type 0) → AreFound Keeps [] []
levels_start Keeps = record { found = []; are = tt; placed = refl }

pub levels_more : (Keeps : ℕ → List ℕ → Type 0) (shape : List (List TableFile)) (n : ℕ)
    (files : List TableFile) (tables : List (List Table)) (ts : List Table) → n < length shape
    → files ≡ get_or shape n files
    → IsLevelFound Keeps files ts → AreFound Keeps (take n shape) tables
    → AreFound Keeps (take (n + 1) shape) (tables ++ ts ∷ [])
levels_more Keeps shape n files tables ts lt at level r = record {
  found = r.found ++ level.found ∷ [];
  are = subst (λ fs. AreLevelsFound Keeps fs (r.found ++ level.found ∷ []))
      (ap (λ (f : List TableFile). take n shape ++ f ∷ []) at ∙ sym (take_more shape n files lt))
      (levels_push Keeps (take n shape) r.found files level.found r.are level.are);
  placed = ap (λ (ls : List (List Table)). ls ++ ts ∷ []) r.placed
      ∙ ap (λ (us : List Table). placed_levels r.found ++ us ∷ []) level.placed
      ∙ sym (placed_levels_push r.found level.found);
}

pub order_push : (levels : List (List Table)) (ts : List Table) → AreInOrder levels
    → IsSortedBy stands_before ts → AreInOrder (levels ++ ts ∷ [])
order_push [] ts a s = (s, tt)
order_push (us ∷ levels) ts a s = (a.0, order_push levels ts a.1 s)

all_append : (shape more : List (List TableFile)) → all_files (shape ++ more) ≡ all_files shape ++
    all_files more
all_append [] more = refl
all_append (files ∷ shape) more = ap (λ (fs : List TableFile). files ++ fs) (all_append shape more)
    ∙ sym (append_assoc files (all_files shape) (all_files more))

there_levels : (Keeps : ℕ → List ℕ → Type 0) (shape : List (List TableFile))
    (levels : List (List Table)) → AreLevelsFound Keeps shape levels → (f : TableFile)
    → Has (all_files shape) f → IsThere Keeps f
there_levels Keeps [] levels a f h = absurd h
there_levels Keeps (files ∷ shape) [] a f h = absurd a
there_levels Keeps (files ∷ shape) (ts ∷ levels) a f h = elim (has_cases files (all_files shape) f
    h) [
      | inl here ↦ there_all Keeps files ts a.0 f here
      | inr there ↦ there_levels Keeps shape levels a.1 f there
    ]

there_append : (Keeps : ℕ → List ℕ → Type 0) (front more : List TableFile)
    → ((f : TableFile) → Has front f → IsThere Keeps f)
    → ((f : TableFile) → Has more f → IsThere Keeps f) → (f : TableFile) → Has (front ++ more) f
    → IsThere Keeps f
there_append Keeps front more these others f h = elim (has_cases front more f h) [
  | inl here ↦ these f here
  | inr there ↦ others f there
]

pub refused_in : (Keeps : ℕ → List ℕ → Type 0) (Refused : ℕ → ShelfFault → Type 0)
    (shape : List (List TableFile)) (n : ℕ) (files : List TableFile) (fault : CheckFault)
    (tables : List (List Table))
    → n < length shape → files ≡ get_or shape n files → AreFound Keeps (take n shape) tables
    → IsFilesRefusal Keeps Refused files fault → IsFilesRefusal Keeps Refused (all_files shape)
    fault
refused_in Keeps Refused shape n files fault tables lt at found (inl want) = inl want
refused_in Keeps Refused shape n files fault tables lt at found
    (inr (front, file, back, is, these, r)) =
    let before = all_files (take n shape) in
    let behind = all_files (drop (n + 1) shape) in
    let whole : all_files shape ≡ before ++ (files ++ behind) = ap all_files
    (around shape n files lt at) ∙ all_append (take n shape) (files ∷ drop (n + 1) shape) in
    let parted : before ++ (files ++ behind) ≡ (before ++ front) ++ file ∷ (back ++ behind) =
    ap (λ (fs : List TableFile). before ++ (fs ++ behind)) is
    ∙ ap (λ (fs : List TableFile). before ++ fs) (append_assoc front (file ∷ back) behind)
    ∙ sym (append_assoc before front (file ∷ (back ++ behind))) in
    inr (
      before ++ front,
      file,
      back ++ behind,
      whole ∙ parted,
      there_append Keeps before front (there_levels Keeps (take n shape) found.found found.are)
          these,
      r,
    )

-- ---- tables in place have bounds

bounds_of : (Keeps : ℕ → List ℕ → Type 0) (file : TableFile) (t : Table) → IsFoundFor Keeps file t
    → IsBounds t.smallest t.largest
bounds_of Keeps file t i =
    subst (λ (b : List ℕ). IsBounds b t.largest) (sym i.smallest)
    (subst (λ (b : List ℕ). IsBounds file.smallest b) (sym i.largest) i.bounds)

files_bounded : (Keeps : ℕ → List ℕ → Type 0) (files : List TableFile) (ts : List Table)
    → AreFoundFor Keeps files ts → AreBounded ts
files_bounded Keeps [] [] a = λ t h. absurd h
files_bounded Keeps [] (u ∷ ts) a = absurd a
files_bounded Keeps (f ∷ files) [] a = λ t h. absurd h
files_bounded Keeps (f ∷ files) (u ∷ ts) a = λ t h. elim h [
  | inl e ↦ subst (λ (x : Table). IsBounds x.smallest x.largest) e (bounds_of Keeps f u a.0)
  | inr k ↦ files_bounded Keeps files ts a.1 t k
]

pub levels_bounded : (Keeps : ℕ → List ℕ → Type 0) (shape : List (List TableFile))
    (found : List (List Table)) → AreLevelsFound Keeps shape found
    → AreLevelsBounded (placed_levels found)
levels_bounded Keeps [] [] a = tt
levels_bounded Keeps [] (ts ∷ found) a = absurd a
levels_bounded Keeps (fs ∷ shape) [] a = tt
levels_bounded Keeps (fs ∷ shape) (ts ∷ found) a = (
  λ t h. elim (all_has ts [] t h) [
    | inl here ↦ files_bounded Keeps fs ts a.0 t here
    | inr none ↦
        absurd none
  ],
  levels_bounded Keeps shape found a.1,
)
