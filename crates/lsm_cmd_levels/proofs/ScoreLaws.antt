-- The score of a level by a shape is that of the version that has a table for each file of the shape.
use Rattle.std.proofs.Common.{◌≡◌, ℕ, zero, suc, ◌+◌, ◌*◌, List, [], ◌∷◌, length, get_or, refl, sym, ◌∙◌, ap, arith, length-append}
use Rattle.std.specs.Prelude.{not}
use Rattle.std.specs.List.{filter, sum_by}
use Rattle.std.proofs.lemmas.List.Filters.{length-filter_both, sum_by-filter_both}
use Rattle.std.proofs.lemmas.List.Sums.{sum_by-append, sum_by-cons}
use Rattle.lsm_manifest.specs.declared.file_meta.FileMeta.{FileMeta}
use Rattle.lsm_manifest.specs.declared.shape.Shape.{Shape}
use Rattle.lsm_table.specs.Registry.{Table, size_of}
use Rattle.lsm_picker.specs.Scores as picker
use Rattle.lsm_verify.specs.CheckRefusal.{IsOfShape}
use Rattle.lsm_verify.specs.Loading.{AreFilesOf, AreLevelsOf, placed_levels}
use Rattle.lsm_version.specs.Changes.{placed_all, placed_in}
use Rattle.lsm_version.specs.Versions.{Levels, level_in, stands_before}
use Rattle.lsm_cmd_levels.specs.Sums.{bytes_of, files_at, load, score, weight}

-- ---- tables that are put into place

placed_count : (t : Table) (us : List Table) → length (placed_in t us) ≡ length us + 1
unfolding placed_in
placed_count t us =
    let later = filter (λ u. stands_before t u) us in
    let before = filter (λ u. not (stands_before t u)) us in
    let both : length later + length before ≡ length us = length-filter_both (λ u. stands_before t u) (λ u. not (stands_before t u)) (λ u. refl) us in
    omega (arith, both, length-append before (t ∷ later))

placed_bytes : (t : Table) (us : List Table) → sum_by size_of (placed_in t us) ≡ size_of t + sum_by size_of us
unfolding placed_in
placed_bytes t us =
    let later = filter (λ u. stands_before t u) us in
    let before = filter (λ u. not (stands_before t u)) us in
    let both : sum_by size_of later + sum_by size_of before ≡ sum_by size_of us = sum_by-filter_both (λ u. stands_before t u) (λ u. not (stands_before t u)) (λ u. refl) size_of us in
    omega (arith, both, sum_by-append size_of before (t ∷ later), sum_by-cons size_of t later)

all_count : (ts us : List Table) → length (placed_all ts us) ≡ length ts + length us
all_count [] us = omega arith
all_count (t ∷ ts) us = omega (arith, all_count ts (placed_in t us), placed_count t us)

all_bytes : (ts us : List Table) → sum_by size_of (placed_all ts us) ≡ sum_by size_of ts + sum_by size_of us
all_bytes [] us = omega arith
all_bytes (t ∷ ts) us = omega (arith, all_bytes ts (placed_in t us), placed_bytes t us, sum_by-cons size_of t ts)

level_placed : (read : List (List Table)) (n : ℕ) → level_in (placed_levels read) n ≡ placed_all (level_in read n) []
level_placed [] n = refl
level_placed (ts ∷ levels) zero = refl
level_placed (ts ∷ levels) (suc n) = level_placed levels n

-- ---- a table for each file

files_count : (last : ℕ) (fs : List FileMeta) (ts : List Table) → AreFilesOf last fs ts → length fs ≡ length ts
files_count last [] [] are = refl
files_count last [] (t ∷ ts) are = absurd are
files_count last (f ∷ fs) [] are = absurd are
files_count last (f ∷ fs) (t ∷ ts) are = ap suc (files_count last fs ts are.1)

files_bytes : (last : ℕ) (fs : List FileMeta) (ts : List Table) → AreFilesOf last fs ts → bytes_of fs ≡ sum_by size_of ts
files_bytes last [] [] are = refl
files_bytes last [] (t ∷ ts) are = absurd are
files_bytes last (f ∷ fs) [] are = absurd are
files_bytes last (f ∷ fs) (t ∷ ts) are =
    omega (arith, are.0.image.size, files_bytes last fs ts are.1, sum_by-cons (λ (g : FileMeta). g.size) f fs, sum_by-cons size_of t ts)

level_files : (last : ℕ) (shape : List (List FileMeta)) (read : List (List Table)) (n : ℕ) → AreLevelsOf last shape read → AreFilesOf last (get_or shape n []) (level_in read n)
level_files last [] [] n are = tt
level_files last [] (ts ∷ levels) n are = absurd are
level_files last (fs ∷ shape) [] n are = absurd are
level_files last (fs ∷ shape) (ts ∷ levels) zero are = are.0
level_files last (fs ∷ shape) (ts ∷ levels) (suc n) are = level_files last shape levels n are.1

-- ---- scores

-- where no job is live
all_free : (ts : List Table) → picker.free_tables [] ts ≡ ts
all_free [] = refl
all_free (t ∷ ts) = ap (λ us. t ∷ us) (all_free ts)

load_is : (level : ℕ) (fs : List FileMeta) (ts : List Table) → length fs ≡ length ts → bytes_of fs ≡ sum_by size_of ts → load level fs ≡ picker.load level ts
load_is zero fs ts count bytes = count
load_is (suc n) fs ts count bytes = bytes

pub score_is : (s : Shape) (v : Levels) (level : ℕ) → IsOfShape s v → score level (files_at s level) ≡ picker.score v [] level
score_is s v level of =
    let fs = files_at s level in
    let ts = level_in of.read level in
    let us = level_in v.tables level in
    let are = level_files s.last s.levels of.read level of.files in
    let at : us ≡ placed_all ts [] = ap (λ (levels : List (List Table)). level_in levels level) of.placed ∙ level_placed of.read level in
    let count : length fs ≡ length us = omega (arith, files_count s.last fs ts are, all_count ts [], ap (length {A = Table}) at) in
    let bytes : bytes_of fs ≡ sum_by size_of us = omega (arith, files_bytes s.last fs ts are, all_bytes ts [], ap (sum_by size_of) at) in
    ap (λ n. (n, picker.limit level)) (load_is level fs us count bytes ∙ ap (picker.load level) (sym (all_free us)))

pub weight_is : (s : Shape) (v : Levels) (level : ℕ) → IsOfShape s v → weight level (files_at s level) ≡ picker.weight v [] level
unfolding weight
weight_is s v level of = ap (λ (p : ℕ × ℕ). p.0 * picker.scale level) (score_is s v level of)
