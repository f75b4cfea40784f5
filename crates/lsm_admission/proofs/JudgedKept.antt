-- Where what a judgment found is kept.
use Rattle.std.proofs.Common.{◌≡◌, ℕ, zero, suc, ◌+◌, Bool, true, false, not, List, [], ◌∷◌, ◌++◌}
use Rattle.std.specs.Prelude.{length}
use Rattle.std.proofs.Common.{refl, sym, ◌∙◌, ap, subst, inl, inr}
use Rattle.std.specs.Prelude.{◌⊎◌}
use Rattle.std.specs.List.{filter}
use Rattle.lsm_codec.specs.Lists.{Has}
use Rattle.lsm_codec.proofs.CallerLemmas.{has_cases, has_filter, has_left, has_right}
use Rattle.lsm_table.specs.Registry.{Table}
use Rattle.lsm_table.specs.HeldTable.{entries_in}
use Rattle.lsm_manifest.specs.FileOrder.{TableFile}
use Rattle.lsm_manifest.specs.Shape.{Form}
use Rattle.lsm_model.specs.Files.{File}
use Rattle.lsm_verify.specs.CheckRefusal.{IsOfShape}
use Rattle.lsm_verify.specs.CheckedFiles.{IsFileOf, IsImageOf}
use Rattle.lsm_verify.specs.Loading.{AreFilesOf, AreLevelsOf, all_files, placed_levels}
use Rattle.lsm_verify.specs.Settled.{KeepsAge}
use Rattle.lsm_version.specs.Changes.{placed_all, placed_in}
use Rattle.lsm_version.specs.FileNumbers.{AreDistinct, file_numbers, numbers_of}
use Rattle.lsm_version.specs.Versions.{Levels, file_of, files, level_in, stands_before, user_of}
use Rattle.lsm_version.proofs.CallerLemmas.{file_in, in_files}
use Rattle.lsm_admission.specs.FoundTables.{IsFoundFor, AreFoundFor, AreLevelsFound, IsFoundFrom}
use Rattle.lsm_admission.specs.Keeping.{KeepsOnly, ImagesOf, KeepsTables}
use Rattle.lsm_admission.proofs.Sound.{distinct_rest, level_placed, twice}

-- ---- tables that were read stand in their levels

either : (p : Table → Bool) (us : List Table) (x : Table) → Has us x
    → Has (filter (λ u. not (p u)) us) x ⊎ Has (filter p us) x
either p us x h = go (p x) refl
  where
    go : (b : Bool) → p x ≡ b → Has (filter (λ u. not (p u)) us) x ⊎ Has (filter p us) x
    go true e = inr (has_filter p us x h e)
    go false e = inl (has_filter (λ u. not (p u)) us x h (ap not e))

has_placed : (t : Table) (us : List Table) (x : Table) → (t ≡ x) ⊎ Has us x → Has (placed_in t us) x
unfolding placed_in
has_placed t us x h =
    let p : Table → Bool = λ u. stands_before t u in
    let q : Table → Bool = λ u. not (stands_before t u) in
    elim h [
      | inl same ↦ has_right (filter q us) (t ∷ filter p us) x (inl same)
      | inr k ↦ elim (either p us x k) [
        | inl a ↦ has_left (filter q us) (t ∷ filter p us) x a
        | inr b ↦ has_right (filter q us) (t ∷ filter p us) x (inr b)
      ]
    ]

has_all : (ts us : List Table) (x : Table) → Has ts x ⊎ Has us x → Has (placed_all ts us) x
has_all [] us x h = elim h [ inl a ↦ absurd a | inr b ↦ b ]
has_all (t ∷ ts) us x h = has_all ts (placed_in t us) x
    (elim h as (λ _. Has ts x ⊎ Has (placed_in t us) x) [
      | inl a ↦ elim a [ inl same ↦ inr (has_placed t us x (inl same)) | inr b ↦ inl b ]
      | inr c ↦ inr (has_placed t us x (inr c))
    ])

level_read : (read : List (List Table)) (n : ℕ) (t : Table) → Has (level_in read n) t
    → Has (level_in (placed_levels read) n) t
level_read [] n t h = absurd h
level_read (ts ∷ read) zero t h = has_all ts [] t (inl h)
level_read (ts ∷ read) (suc n) t h = level_read read n t h

-- ---- each file has its table

abbrev TableFor : ℕ → TableFile → List Table → Type 0
TableFor last file ts = (t : Table) × Has ts t × IsFileOf last file t

table_for : (last : ℕ) (files : List TableFile) (ts : List Table) (file : TableFile)
    → AreFilesOf last files ts → Has files file → TableFor last file ts
table_for last [] ts file a h = absurd h
table_for last (f ∷ files) [] file a h = absurd a
table_for last (f ∷ files) (t ∷ ts) file a (inl e) =
    (t, inl refl, subst (λ (g : TableFile). IsFileOf last g t) e a.0)
table_for last (f ∷ files) (t ∷ ts) file a (inr h) = (let r = table_for last files ts file a.1 h
    in (r.0, inr r.1, r.2))

abbrev TableAt : ℕ → TableFile → List (List Table) → Type 0
TableAt last file read = (n : ℕ) × (t : Table) × Has (level_in read n) t × IsFileOf last file t

table_at : (last : ℕ) (shape : List (List TableFile)) (read : List (List Table)) (file : TableFile)
    → AreLevelsOf last shape read → Has (all_files shape) file → TableAt last file read
table_at last [] read file a h = absurd h
table_at last (fs ∷ shape) [] file a h = absurd a
table_at last (fs ∷ shape) (ts ∷ read) file a h = elim (has_cases fs (all_files shape) file h) [
  | inl here ↦ (let r = table_for last fs ts file a.0 here in (zero, r.0, r.1, r.2))
  | inr there ↦ (let r = table_at last shape read file a.1 there in (suc r.0, r.1, r.2, r.3))
]

image_kept : (last : ℕ) (file : TableFile) (t : Table) (image : List ℕ) → IsFileOf last file t
    → image ≡ t.image → IsImageOf last file image
image_kept last file t image i e = subst (IsImageOf last file) (sym e) i.image

pub images_kept : (Keeps : ℕ → List ℕ → Type 0) (shape : Form) (v : Levels) → IsOfShape shape v
    → KeepsOnly Keeps v → (file : TableFile) (image : List ℕ) → Has (all_files shape.levels) file
    → Keeps file.number image → length image ≡ file.size → IsImageOf shape.last file image
images_kept Keeps shape v of only file image h kept size =
    let r = table_at shape.last shape.levels of.read file of.files h in
    let there : Has (level_in v.tables r.0) r.1 = subst (λ (ls : List (List Table)). Has
    (level_in ls r.0) r.1) (sym of.placed) (level_read of.read r.0 r.1 r.2) in
    image_kept shape.last file r.1 image r.3
    (only r.0 r.1 image there (subst (λ (n : ℕ). Keeps n image) (sym r.3.number) kept)
    (size ∙ sym r.3.image.size))

-- ---- what is found is what was read

-- the table stands for what this one does
record IsAs (Keeps : ℕ → List ℕ → Type 0) (u t : Table) : Type 0 where
  number : u.number ≡ t.number
  smallest : u.smallest ≡ t.smallest
  largest : u.largest ≡ t.largest
  kept : Keeps t.number u.image
  size : length u.image ≡ length t.image

abbrev OneAs : (ℕ → List ℕ → Type 0) → Table → List Table → Type 0
OneAs Keeps u ts = (t : Table) × Has ts t × IsAs Keeps u t

as_file : (Keeps : ℕ → List ℕ → Type 0) (last : ℕ) (file : TableFile) (u t : Table)
    → IsFoundFor Keeps file u → IsFileOf last file t → IsAs Keeps u t
as_file Keeps last file u t f i = record {
  number = f.number ∙ sym i.number;
  smallest = f.smallest ∙ sym i.smallest;
  largest = f.largest ∙ sym i.largest;
  kept = subst (λ (n : ℕ). Keeps n u.image) (f.number ∙ sym i.number) f.kept;
  size = f.size ∙ sym i.image.size;
}

one_as : (Keeps : ℕ → List ℕ → Type 0) (last : ℕ) (files : List TableFile)
    (found read : List Table) → AreFoundFor Keeps files found → AreFilesOf last files read
    → (u : Table) → Has found u → OneAs Keeps u read
one_as Keeps last [] [] read a b u h = absurd h
one_as Keeps last [] (x ∷ found) read a b u h = absurd a
one_as Keeps last (f ∷ files) [] read a b u h = absurd h
one_as Keeps last (f ∷ files) (x ∷ found) [] a b u h = absurd b
one_as Keeps last (f ∷ files) (x ∷ found) (t ∷ read) a b u (inl e) =
    (t, inl refl, as_file Keeps last f u t (subst (IsFoundFor Keeps f) e a.0) b.0)
one_as Keeps last (f ∷ files) (x ∷ found) (t ∷ read) a b u (inr h) =
    (let r = one_as Keeps last files found read a.1 b.1 u h in (r.0, inr r.1, r.2))

level_as : (Keeps : ℕ → List ℕ → Type 0) (last : ℕ) (shape : List (List TableFile))
    (found read : List (List Table)) → AreLevelsFound Keeps shape found
    → AreLevelsOf last shape read → (n : ℕ) (u : Table) → Has (level_in found n) u
    → OneAs Keeps u (level_in read n)
level_as Keeps last [] [] read a b n u h = absurd h
level_as Keeps last [] (us ∷ found) read a b n u h = absurd a
level_as Keeps last (fs ∷ shape) [] read a b n u h = absurd h
level_as Keeps last (fs ∷ shape) (us ∷ found) [] a b n u h = absurd b
level_as Keeps last (fs ∷ shape) (us ∷ found) (ts ∷ read) a b zero u h = one_as Keeps last fs us ts
    a.0 b.0 u h
level_as Keeps last (fs ∷ shape) (us ∷ found) (ts ∷ read) a b (suc n) u h = level_as Keeps last
    shape found read a.1 b.1 n u h

-- with one image it is one file
same_file : (level : ℕ) (u t : Table) → u.number ≡ t.number → u.smallest ≡ t.smallest
    → u.largest ≡ t.largest → u.image ≡ t.image → file_of level t ≡ file_of level u
same_file level u t number smallest largest image =
    ap (λ (n : ℕ). the_file n t.smallest t.largest t.image) (sym number)
    ∙ (ap (λ (b : List ℕ). the_file u.number b t.largest t.image) (sym smallest)
    ∙ (ap (λ (b : List ℕ). the_file u.number u.smallest b t.image) (sym largest)
    ∙ ap (λ (b : List ℕ). the_file u.number u.smallest u.largest b) (sym image)))
  where
    the_file : ℕ → List ℕ → List ℕ → List ℕ → File
    the_file n smallest largest image = record {
      level = level;
      number = n;
      low = user_of smallest;
      high = user_of largest;
      entries = entries_in image;
    }

found_is_file : (Keeps : ℕ → List ℕ → Type 0) (shape : Form) (v w : Levels) → IsOfShape shape v
    → KeepsOnly Keeps v → IsFoundFrom Keeps shape w → (F : File) → Has (files w) F → Has (files v) F
found_is_file Keeps shape v w of only f F h =
    let at = file_in 0 w.tables F h in
    let n = at.0 in
    let u = at.1 in
    let found : Has (level_in f.tables.found.found n) u = level_placed f.tables.found.found n u
    (subst (λ (ls : List (List Table)). Has (level_in ls n) u) f.tables.found.placed at.2) in
    let one = level_as Keeps shape.last shape.levels f.tables.found.found of.read
    f.tables.found.are of.files n u found in
    let t = one.0 in
    let there : Has (level_in v.tables n) t = subst (λ (ls : List (List Table)). Has
    (level_in ls n) t) (sym of.placed) (level_read of.read n t one.1) in
    let image : u.image ≡ t.image = only n t u.image there one.2.kept one.2.size in
    subst (Has (files v)) (same_file (0 + n) u t one.2.number one.2.smallest one.2.largest image
    ∙ at.3) (in_files 0 v.tables n t there)

pub judged_kept : (Keeps : ℕ → List ℕ → Type 0) (shape : Form) (v : Levels) → IsOfShape shape v
    → KeepsAge (files v) → KeepsOnly Keeps v → KeepsTables Keeps shape
judged_kept Keeps shape v of ages only = record {
  images = λ file image h kept size. images_kept Keeps shape v of only file image h kept size;
  ages = λ w f F G x y hF hG. ages F G x y (found_is_file Keeps shape v w of only f F hF)
      (found_is_file Keeps shape v w of only f G hG);
}

-- ---- an instance

abbrev flat : List (List Table) → List Table
flat [] = []
flat (ts ∷ read) = ts ++ flat read

abbrev table_numbers : List Table → List ℕ
table_numbers [] = []
table_numbers (t ∷ ts) = t.number ∷ table_numbers ts

in_flat : (read : List (List Table)) (n : ℕ) (t : Table) → Has (level_in read n) t
    → Has (flat read) t
in_flat [] n t h = absurd h
in_flat (ts ∷ read) zero t h = has_left ts (flat read) t h
in_flat (ts ∷ read) (suc n) t h = has_right ts (flat read) t (in_flat read n t h)

has_table_number : (ts : List Table) (t : Table) → Has ts t → Has (table_numbers ts) t.number
has_table_number [] t h = absurd h
has_table_number (u ∷ ts) t (inl e) = inl (ap (λ (x : Table). x.number) e)
has_table_number (u ∷ ts) t (inr h) = inr (has_table_number ts t h)

numbers_append : (ts us : List Table) → table_numbers (ts ++ us) ≡ table_numbers ts ++
    table_numbers us
numbers_append [] us = refl
numbers_append (t ∷ ts) us = ap (λ (ns : List ℕ). t.number ∷ ns) (numbers_append ts us)

level_numbers : (last : ℕ) (files : List TableFile) (ts : List Table) → AreFilesOf last files ts
    → table_numbers ts ≡ file_numbers files
level_numbers last [] [] a = refl
level_numbers last [] (t ∷ ts) a = absurd a
level_numbers last (f ∷ files) [] a = absurd a
level_numbers last (f ∷ files) (t ∷ ts) a = ap (λ (n : ℕ). n ∷ table_numbers ts) a.0.number
    ∙ ap (λ (ns : List ℕ). f.number ∷ ns) (level_numbers last files ts a.1)

flat_numbers : (last : ℕ) (shape : List (List TableFile)) (read : List (List Table))
    → AreLevelsOf last shape read → table_numbers (flat read) ≡ numbers_of shape
flat_numbers last [] [] a = refl
flat_numbers last [] (ts ∷ read) a = absurd a
flat_numbers last (fs ∷ shape) [] a = absurd a
flat_numbers last (fs ∷ shape) (ts ∷ read) a =
    numbers_append ts (flat read)
    ∙ ap (λ (ns : List ℕ). ns ++ table_numbers (flat read)) (level_numbers last fs ts a.0)
    ∙ ap (λ (ns : List ℕ). file_numbers fs ++ ns) (flat_numbers last shape read a.1)

one_table : (ts : List Table) → AreDistinct (table_numbers ts) → (t u : Table) → Has ts t
    → Has ts u → t.number ≡ u.number → t ≡ u
one_table [] d t u ht hu e = absurd ht
one_table (x ∷ ts) d t u (inl a) (inl b) e = sym a ∙ b
one_table (x ∷ ts) d t u (inl a) (inr h) e = absurd (twice u.number x.number (table_numbers ts) d
    (ap (λ (z : Table). z.number) a ∙ e) (has_table_number ts u h))
one_table (x ∷ ts) d t u (inr h) (inl b) e = absurd (twice t.number x.number (table_numbers ts) d
    (ap (λ (z : Table). z.number) b ∙ sym e) (has_table_number ts t h))
one_table (x ∷ ts) d t u (inr h) (inr k) e = one_table ts
    (distinct_rest x.number (table_numbers ts) d) t u h k e

-- of one number a version has one image
pub one_image : (shape : Form) (v : Levels) → IsOfShape shape v
    → AreDistinct (numbers_of shape.levels)
    → (n : ℕ) (t : Table) (image : List ℕ) → Has (level_in v.tables n) t
    → ImagesOf v t.number image → image ≡ t.image
one_image shape v of own n t image h s =
    let placed = of.placed in
    let here : Has (level_in of.read n) t = level_placed of.read n t
    (subst (λ (ls : List (List Table)). Has (level_in ls n) t) placed h) in
    let other : Has (level_in of.read s.0) s.1 = level_placed of.read s.0 s.1
    (subst (λ (ls : List (List Table)). Has (level_in ls s.0) s.1) placed s.2) in
    let apart : AreDistinct (table_numbers (flat of.read)) = subst AreDistinct
    (sym (flat_numbers shape.last shape.levels of.read of.files)) own in
    sym s.4 ∙ ap (λ (x : Table). x.image) (one_table (flat of.read) apart s.1 t
    (in_flat of.read s.0 s.1 other) (in_flat of.read n t here) s.3)

pub version_kept : (shape : Form) (v : Levels) → IsOfShape shape v
    → AreDistinct (numbers_of shape.levels) → KeepsAge (files v) → KeepsTables (ImagesOf v) shape
version_kept shape v of own ages = judged_kept (ImagesOf v) shape v of ages
    (λ n t image h s size. one_image shape v of own n t image h s)
