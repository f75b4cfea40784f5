-- The tables of a version are kept where they lie under their numbers.
use Rattle.std.proofs.Common.{◌≡◌, ℕ, zero, suc, ◌+◌, ◌≤◌, ◌<◌, List, [], ◌∷◌, length, get_or, refl}
use Rattle.std.proofs.Common.{sym, ◌∙◌, ap, subst, inl, inr, arith, Some}
use Rattle.lsm_codec.specs.Keys.{IsKey}
use Rattle.lsm_codec.specs.Lists.{Has}
use Rattle.lsm_codec.proofs.CallerLemmas.{has_left, has_right}
use Rattle.lsm_manifest.specs.FileOrder.{TableFile}
use Rattle.lsm_manifest.specs.Shape.{IsShape}
use Rattle.lsm_manifest.proofs.CallerLemmas.{replayed_shape}
use Rattle.lsm_table.specs.Registry.{Table}
use Rattle.lsm_model.specs.Files.{File}
use Rattle.lsm_version.specs.Versions.{IsSound, Levels, file_of, files, level_in}
use Rattle.lsm_version.proofs.CallerLemmas.{file_in, in_files}
use Rattle.lsm_verify.specs.CheckedFiles.{IsImageOf}
use Rattle.lsm_verify.specs.Loading.{all_files}
use Rattle.lsm_journal.specs.Recorded.{meta_of}
use Rattle.lsm_admission.specs.FoundTables.{AreFoundFor, AreLevelsFound, IsFoundFor, IsFoundFrom}
use Rattle.lsm_admission.specs.Keeping.{KeepsTables}
use Rattle.lsm_crash.specs.Versions.{ComesTo, IsNamed, Tables, Version}
use Rattle.lsm_crash.specs.States.{Describes, HasTables}
use Rattle.lsm_crash.specs.Kept.{IsCounted, IsKept}
use Rattle.lsm_crash.proofs.Found.{same_file}
use Rattle.lsm_crash.proofs.Refusing.{level_of_file, placed_from}

-- ---- where fewer images lie

-- of the numbers of these files, and of their sizes
abbrev pub Fewer : (K L : ℕ → List ℕ → Type 0) → List TableFile → Type 0
Fewer K L files =
    (file : TableFile) (image : List ℕ) → Has files file → length image ≡ file.size → K file.number
    image → L file.number image

file_fewer : (K L : ℕ → List ℕ → Type 0) (file : TableFile) (t : Table)
    → ((image : List ℕ) → length image ≡ file.size → K file.number image → L file.number image)
    → IsFoundFor K file t → IsFoundFor L file t
file_fewer K L file t fewer f = record {
  number = f.number;
  smallest = f.smallest;
  largest = f.largest;
  bounds = f.bounds;
  size = f.size;
  kept =
      subst (λ (n : ℕ). L n t.image) (sym f.number)
      (fewer t.image f.size (subst (λ (n : ℕ). K n t.image) f.number f.kept));
}

level_fewer : (K L : ℕ → List ℕ → Type 0) (files : List TableFile) (ts : List Table)
    → Fewer K L files → AreFoundFor K files ts → AreFoundFor L files ts
level_fewer K L [] [] fewer a = tt
level_fewer K L [] (t ∷ ts) fewer a = absurd a
level_fewer K L (f ∷ files) [] fewer a = absurd a
level_fewer K L (f ∷ files) (t ∷ ts) fewer a = (
  file_fewer K L f t (λ image. fewer f image (inl refl)) a.0,
  level_fewer K L files ts (λ file image h. fewer file image (inr h)) a.1,
)

levels_fewer : (K L : ℕ → List ℕ
    → Type 0) (shape : List (List TableFile)) (found : List (List Table))
    → Fewer K L (all_files shape) → AreLevelsFound K shape found → AreLevelsFound L shape found
levels_fewer K L [] [] fewer a = tt
levels_fewer K L [] (ts ∷ found) fewer a = absurd a
levels_fewer K L (fs ∷ shape) [] fewer a = absurd a
levels_fewer K L (fs ∷ shape) (ts ∷ found) fewer a = (
  level_fewer K L fs ts (λ file image h. fewer file image (has_left fs (all_files shape) file h))
      a.0,
  levels_fewer K L shape found (λ file image h. fewer file image
      (has_right fs (all_files shape) file h)) a.1,
)

pub found_fewer : (K L : ℕ → List ℕ → Type 0) (v : Version) (u : Levels)
    → Fewer K L (all_files v.levels) → IsFoundFrom K v u → IsFoundFrom L v u
found_fewer K L v u fewer f = record {
  tables = record {
    numbers = f.tables.numbers;
    found =
        record {
          found = f.tables.found.found;
          are = levels_fewer K L v.levels f.tables.found.found
              fewer f.tables.found.are;
          placed = f.tables.found.placed;
        };
    order = f.tables.order;
  };
  apart = f.apart;
  pointers = f.pointers;
  last = f.last;
}

pub tables_fewer : (K L : ℕ → List ℕ → Type 0) (v : Version) → Fewer K L (all_files v.levels)
    → KeepsTables L v → KeepsTables K v
tables_fewer K L v fewer t = record {
  images = λ file image h k size. t.images file image h (fewer file image h size k) size;
  ages = λ u f. t.ages u (found_fewer K L v u fewer f);
}

pub kept_fewer : (K L : ℕ → List ℕ → Type 0) (v : Version)
    → ((file : TableFile) (image : List ℕ) → Has (all_files v.levels) file → K file.number image
    → L file.number image)
    → ((file : TableFile) → Has (all_files v.levels) file → (image : List ℕ) × K file.number image)
    → IsKept L v → IsKept K v
kept_fewer K L v fewer there k = record {
  tables = tables_fewer K L v (λ file image h size l. fewer file image h l) k.tables;
  there = there;
  sizes = λ file image h l. k.sizes file image h (fewer file image h l);
}

-- ---- the files of a version

-- each is named
pub file_named : (v : Version) → IsShape v → (file : TableFile) → Has (all_files v.levels) file
    → IsNamed v file.number
file_named v whole file h =
    (let at = level_of_file v.levels file h in (
      at.0,
      file,
      omega (arith, at.1, whole.seven),
      at.2,
      refl,
    ))

-- each table that was found is one file's
found_for : (K : ℕ → List ℕ → Type 0) (files : List TableFile) (ts : List Table)
    → AreFoundFor K files ts → (a : Table) → Has ts a
    → (f : TableFile) × Has files f × IsFoundFor K f a
found_for K [] [] all a h = absurd h
found_for K [] (t ∷ ts) all a h = absurd all
found_for K (f ∷ files) [] all a h = absurd h
found_for K (f ∷ files) (t ∷ ts) all a (inl e) = (f, inl refl, subst (IsFoundFor K f) e all.0)
found_for K (f ∷ files) (t ∷ ts) all a (inr h) = (let r = found_for K files ts all.1 a h in
    (r.0, inr r.1, r.2))

found_at : (K : ℕ → List ℕ → Type 0) (shape : List (List TableFile)) (found : List (List Table))
    → AreLevelsFound K shape found → (level : ℕ) (a : Table) → Has (level_in found level) a
    → (f : TableFile) × (level < length shape) × Has (get_or shape level []) f × IsFoundFor K f a
found_at K [] [] all level a h = absurd h
found_at K [] (ts ∷ found) all level a h = absurd all
found_at K (fs ∷ shape) [] all level a h = absurd h
found_at K (fs ∷ shape) (ts ∷ found) all zero a h =
    (let r = found_for K fs ts all.0 a h in (r.0, omega arith, r.1, r.2))
found_at K (fs ∷ shape) (ts ∷ found) all (suc level) a h =
    (let r = found_at K shape found all.1 level a h in (r.0, omega (arith, r.1), r.2, r.3))

module _ (v : Levels) (s : Version) (sound : IsSound v) (whole : IsShape s) (d : Describes s v)
  where
    -- the table of a file is what it should be
    its_image : (level : ℕ) (t : Table) (f : TableFile) → Has (level_in v.tables level) t
        → meta_of t ≡ f → IsImageOf s.last f t.image
    its_image level t f h e =
        let w = sound.tables level t h in
        record {
          table = w.table;
          size = ap (λ (x : TableFile). x.size) e;
          spanned = record {
            range = w.range;
            first =
                subst (λ k. IsKey k w.range.smallest) (ap (λ (x : TableFile). x.smallest) e)
                w.smallest;
            end =
                subst (λ k. IsKey k w.range.largest) (ap (λ (x : TableFile). x.largest) e) w.largest;
            spans = w.entries;
            reached = λ x k.
                subst (λ n. x.seq ≤ n) (sym d.last) (sound.reached (file_of (0 + level) t) x
                (in_files 0 v.tables level t h) k);
          };
        }

    table_of : (file : TableFile) → Has (all_files s.levels) file
        → (level : ℕ) × (t : Table) × Has (level_in v.tables level) t × (meta_of t ≡ file)
    table_of file h =
        let at = level_of_file s.levels file h in
        let has = (d.files at.0 file (omega (arith, at.1, whole.seven))).0 at.2 in
        (at.0, has.0, has.1, has.2)

    -- under the number of each table lies its image, and no other one
    module _ (Lies : ℕ → List ℕ → Type 0) (own : (level : ℕ) (t : Table) (image : List ℕ) → Has
        (level_in v.tables level) t → Lies t.number image → image ≡ t.image)
        (there : (level : ℕ) (t : Table) → Has (level_in v.tables level) t → Lies t.number t.image)
      where
        file_image : (file : TableFile) (image : List ℕ) → Has (all_files s.levels) file
            → Lies file.number image → IsImageOf s.last file image
        file_image file image h l =
            let at = table_of file h in
            let number : at.1.number ≡ file.number = ap (λ (x : TableFile). x.number) at.3 in
            let same : image ≡ at.1.image =
            own at.0 at.1 image at.2 (subst (λ (n : ℕ). Lies n image) (sym number) l) in
            subst (IsImageOf s.last file) (sym same) (its_image at.0 at.1 file at.2 at.3)

        -- what is found for the files is the version's
        pub found_file : (u : Levels) → IsFoundFrom Lies s u → (F : File) → Has (files u) F
            → Has (files v) F
        found_file u f F h =
            let at = file_in 0 u.tables F h in
            let level = at.0 in
            let a = at.1 in
            let found : Has (level_in f.tables.found.found level) a = placed_from f.tables.found.found
            level a (subst (λ (ls : List (List Table)). Has (level_in ls level) a)
            f.tables.found.placed at.2) in
            let g = found_at Lies s.levels f.tables.found.found f.tables.found.are level a found in
            let its = (d.files level g.0 (omega (arith, g.1, whole.seven))).0 g.2 in
            let t = its.0 in
            let number : a.number ≡ t.number =
            g.3.number ∙ sym (ap (λ (x : TableFile). x.number) its.2) in
            let smallest : a.smallest ≡ t.smallest =
            g.3.smallest ∙ sym (ap (λ (x : TableFile). x.smallest) its.2) in
            let largest : a.largest ≡ t.largest =
            g.3.largest ∙ sym (ap (λ (x : TableFile). x.largest) its.2) in
            let image : a.image ≡ t.image =
            own level t a.image its.1 (subst (λ (n : ℕ). Lies n a.image) number g.3.kept) in
            let same : file_of (0 + level) a ≡ file_of (0 + level) t = same_file (0 + level) a t number
            smallest largest image in
            subst (Has (files v)) (sym same ∙ at.3) (in_files 0 v.tables level t its.1)

        there_for : (file : TableFile) → Has (all_files s.levels) file
            → (image : List ℕ) × Lies file.number image
        there_for file h =
            (let at = table_of file h in (
              at.1.image,
              subst (λ (n : ℕ). Lies n at.1.image)
                  (ap (λ (x : TableFile). x.number) at.3) (there at.0 at.1 at.2),
            ))

        pub version_kept : IsKept Lies s
        version_kept = record {
          tables = record {
            images = λ file image h l size. file_image file image h l;
            ages = λ u f F G x y hF hG.
                sound.lawful.depth F G x y (found_file u f F hF) (found_file u f G hG);
          };
          there = there_for;
          sizes = λ file image h l. (file_image file image h l).size;
        }

-- ---- what is counted on

image_is : (a b : List ℕ) → Some a ≡ Some b → a ≡ b
image_is a b e = cc

pub shape_of : (bytes : List ℕ) (v : Version) → ComesTo bytes v → IsShape v
shape_of bytes v c = replayed_shape c.edits v c.replayed

-- a sound version whose tables are counted on
pub counted_kept : (v : Levels) (bytes : List ℕ) (s : Version) (tables : Tables) → IsSound v
    → ComesTo bytes s → Describes s v → HasTables tables v → IsKept (IsCounted tables) s
counted_kept v bytes s tables sound c d has =
    version_kept v s sound (shape_of bytes s c) d (IsCounted tables)
    (λ level t image h k. image_is image t.image (sym k ∙ has level t h)) has
