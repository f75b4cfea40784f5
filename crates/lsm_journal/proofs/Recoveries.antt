-- A manifest that was read records each version of its shape.
use Rattle.std.proofs.Common.{◌≡◌, ℕ, suc, ◌+◌, ◌<◌, ◌≤◌, List, [], ◌∷◌, ◌++◌, None, get_or, length, map, refl, sym, ◌∙◌, ap, subst, arith}
use Rattle.std.specs.List.Sorted.{IsStrictlySortedBy}
use Rattle.std.proofs.lemmas.List.{length-map, map-append}
use Rattle.lsm_codec.specs.Lists.{Has}
use Rattle.lsm_table.specs.Registry.{Table, size_of}
use Rattle.lsm_manifest.specs.FileOrder.{TableFile, file_cmp}
use Rattle.lsm_manifest.specs.Replay.{Stands}
use Rattle.lsm_manifest.specs.Shape.{Form, IsReplayed}
use Rattle.lsm_manifest.specs.WholeEdit.{placed_at}
use Rattle.lsm_manifest.proofs.CallerLemmas.{manifest_fits}
use Rattle.lsm_verify.specs.CheckedFiles.{IsFileOf}
use Rattle.lsm_verify.specs.CheckRefusal.{IsOfShape}
use Rattle.lsm_version.specs.FileNumbers.{AreDistinct, file_numbers, numbers_of}
use Rattle.lsm_verify.specs.Loading.{AreFilesOf, AreInFileOrder, AreLevelsOf}
use Rattle.lsm_version.specs.Versions.{Levels, files_from, files_of, level_in}
use Rattle.lsm_journal.specs.HeldManifest.{HeldManifest}
use Rattle.lsm_journal.specs.Finding.{IsNamedBy}
use Rattle.lsm_journal.specs.Recorded.{IsFileAt, IsRecorded, meta_of}
use Rattle.lsm_journal.specs.Recovering.{IsRecovered}
use Rattle.lsm_journal.specs.Writing.{metas_of}
use Rattle.lsm_journal.proofs.Differing.{has_map, inside, map_has}
use Rattle.lsm_journal.proofs.StandingKeys.{standing_fits}
use Rattle.lsm_journal.proofs.Wholes.{level_metas}

-- a version of a shape has its tables in the order of the shape's files (a law of versions)
abbrev pub ShapesInOrder : Type 0
ShapesInOrder = (shape : Form) (v : Levels) → IsOfShape shape v → AreInFileOrder shape.levels → AreLevelsOf shape.last shape.levels v.tables

in_order : (levels : List (List TableFile)) → ((i : ℕ) → i < length levels → IsStrictlySortedBy file_cmp (get_or levels i [])) → AreInFileOrder levels
in_order [] each = tt
in_order (files ∷ levels) each = (each 0 (omega arith), in_order levels (λ i lt. each (suc i) (omega (arith, lt))))

meta_is : (last : ℕ) (file : TableFile) (t : Table) → IsFileOf last file t → meta_of t ≡ file
meta_is last file t is =
    ap (λ (n : ℕ). let m : TableFile = record { number = n; size = size_of t; smallest = t.smallest; largest = t.largest } in m) is.number
    ∙ ap (λ (n : ℕ). let m : TableFile = record { number = file.number; size = n; smallest = t.smallest; largest = t.largest } in m) is.image.size
    ∙ ap (λ (k : List ℕ). let m : TableFile = record { number = file.number; size = file.size; smallest = k; largest = t.largest } in m) is.smallest
    ∙ ap (λ (k : List ℕ). let m : TableFile = record { number = file.number; size = file.size; smallest = file.smallest; largest = k } in m) is.largest

metas_are : (last : ℕ) (files : List TableFile) (ts : List Table) → AreFilesOf last files ts → map meta_of ts ≡ files
metas_are last [] [] is = refl
metas_are last [] (t ∷ ts) is = absurd is
metas_are last (file ∷ files) [] is = absurd is
metas_are last (file ∷ files) (t ∷ ts) is = let a = meta_is last file t is.0 in let b = metas_are last files ts is.1 in cc

levels_are : (last : ℕ) (levels : List (List TableFile)) (tables : List (List Table)) → AreLevelsOf last levels tables → metas_of tables ≡ levels
levels_are last [] [] is = refl
levels_are last [] (ts ∷ tables) is = absurd is
levels_are last (files ∷ levels) [] is = absurd is
levels_are last (files ∷ levels) (ts ∷ tables) is = let a = metas_are last files ts is.0 in let b = levels_are last levels tables is.1 in cc

level_numbers : (level : ℕ) (ts : List Table) → map (λ F. F.number) (files_of level ts) ≡ file_numbers (map meta_of ts)
level_numbers level [] = refl
level_numbers level (t ∷ ts) = ap (λ ns. t.number ∷ ns) (level_numbers level ts)

shape_numbers : (level : ℕ) (tables : List (List Table)) → map (λ F. F.number) (files_from level tables) ≡ numbers_of (metas_of tables)
shape_numbers level [] = refl
shape_numbers level (ts ∷ tables) =
    map-append (λ F. F.number) (files_of level ts) (files_from (suc level) tables)
    ∙ ap (λ ns. ns ++ map (λ F. F.number) (files_from (suc level) tables)) (level_numbers level ts)
    ∙ ap (λ ns. file_numbers (map meta_of ts) ++ ns) (shape_numbers (suc level) tables)

pub named : (rest : ℕ) (h : HeldManifest) (shape : Form) (v : Levels) → IsRecovered h shape rest
    → IsNamedBy shape v → AreDistinct (numbers_of shape.levels) → IsRecorded rest h v shape.next
named rest h shape v r of own =
    let p = r.replayed in
    let levels : metas_of v.tables ≡ shape.levels = of.files in
    let seven : length v.tables ≡ 7 = sym (length-map v.tables (λ ts. map meta_of ts)) ∙ ap length levels ∙ p.seven in
    let fits = manifest_fits h.bytes r.edits rest r.manifest in
    record {
      edits = r.edits;
      manifest = r.manifest;
      written = shape.next;
      upto = omega arith;
      comes = record {
        standing = record {
          innocent = p.innocent;
          files = λ level file. (
            λ f. there level file levels seven p f,
            λ st. back level file levels p (standing_fits r.edits (placed_at level file) fits st).0 st,
          );
          pointers = λ level low. ap (λ ps. get_or ps level None) of.pointers ∙ p.pointers level low;
        };
        log_is = p.log ∙ ap Rattle.std.proofs.Common.Some (sym r.log);
        prev_log_is = p.prev_log ∙ sym r.prev_log;
        next_is = p.next;
        last_is = p.last ∙ ap Rattle.std.proofs.Common.Some (sym of.last);
      };
      own = record {
        seven = seven;
        seven_pointers = ap length of.pointers ∙ p.seven_pointers;
        numbers = subst AreDistinct (sym (shape_numbers 0 v.tables ∙ ap numbers_of levels)) own;
      };
    }
  where
    there : (level : ℕ) (file : TableFile) → metas_of v.tables ≡ shape.levels → length v.tables ≡ 7 → IsReplayed r.edits shape → IsFileAt v level file → Stands r.edits (placed_at level file)
    there level file levels seven p f =
        let lt = inside v.tables level f.0 f.1 in
        let low : level ≤ 6 = omega arith in
        let here : Has (map meta_of (level_in v.tables level)) file = subst (Has (map meta_of (level_in v.tables level))) f.2 (has_map meta_of (level_in v.tables level) f.0 f.1) in
        ((p.levels level low).files file).0 (subst (λ (fs : List (List TableFile)). Has (get_or fs level []) file) levels (subst (λ (fs : List TableFile). Has fs file) (sym (level_metas v.tables level)) here))

    back : (level : ℕ) (file : TableFile) → metas_of v.tables ≡ shape.levels → IsReplayed r.edits shape → level ≤ 6 → Stands r.edits (placed_at level file) → IsFileAt v level file
    back level file levels p low st =
        let here : Has (get_or (metas_of v.tables) level []) file = subst (λ (fs : List (List TableFile)). Has (get_or fs level []) file) (sym levels) (((p.levels level low).files file).1 st) in
        let x = map_has meta_of (level_in v.tables level) file (subst (λ (fs : List TableFile). Has fs file) (level_metas v.tables level) here) in
        (x.0, x.1, x.2)

-- a version of the shape is so, whose tables were read
pub recovered : ShapesInOrder → (rest : ℕ) (h : HeldManifest) (shape : Form) (v : Levels)
    → IsRecovered h shape rest → IsOfShape shape v → AreDistinct (numbers_of shape.levels)
    → IsRecorded rest h v shape.next
recovered law rest h shape v r of own =
    let p = r.replayed in
    let order = in_order shape.levels
    (λ i lt. let low : i ≤ 6 = (let seven = p.seven in omega arith) in (p.levels i low).ordered) in
    named rest h shape v r (record {
      files = levels_are shape.last shape.levels v.tables (law shape v of order);
      pointers = of.pointers;
      last = of.last;
    }) own
