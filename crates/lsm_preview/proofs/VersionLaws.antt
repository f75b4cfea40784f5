-- A version that is read of what a view shows.
use Rattle.std.proofs.Common.{◌≡◌, ◌∙◌, ℕ, zero, suc, ◌+◌, List, [], ◌∷◌, ◌++◌, length, refl, sym}
use Rattle.std.proofs.Common.{ap, subst, inl, inr, arith, get_or}
use Rattle.std.specs.Prelude.{◌⊎◌, Bool, Option, Some, None, All}
use Rattle.lsm_codec.specs.Lists.{Has}
use Rattle.lsm_codec.specs.Entries.{Entry, answer}
use Rattle.lsm_codec.specs.Keys.{UserKey}
use Rattle.lsm_codec.proofs.CallerLemmas.{all_at, has_cases, has_left, has_right}
use Rattle.lsm_shelf.specs.Told.{Told}
use Rattle.lsm_table.specs.HeldTable.{entries_in}
use Rattle.lsm_table.specs.Registry.{Table}
use Rattle.lsm_table.specs.Table.{IsTable}
use Rattle.lsm_manifest.specs.EditFit.{Change}
use Rattle.lsm_manifest.specs.FileOrder.{TableFile}
use Rattle.lsm_manifest.specs.Last.{last_by}
use Rattle.lsm_manifest.specs.Manifest.{IsManifest}
use Rattle.lsm_manifest.specs.Replay.{FileAt, last_sequence}
use Rattle.lsm_manifest.specs.Shape.{Form, IsReplayed}
use Rattle.lsm_model.proofs.CallerLemmas.{one_each, same_answer}
use Rattle.lsm_model.specs.Files.{File, all_entries}
use Rattle.lsm_version.proofs.CallerLemmas.{file_in, in_files}
use Rattle.lsm_version.specs.Versions.{Levels, file_of, files, files_from, level_in}
use Rattle.lsm_verify.specs.CheckRefusal.{IsOfShape}
use Rattle.lsm_verify.specs.CheckedFiles.{IsFileOf}
use Rattle.lsm_verify.specs.Loading.{AreFilesOf, AreLevelsOf, placed_levels}
use Rattle.lsm_batch.specs.Batches.{entries_from}
use Rattle.lsm_batch.specs.declared.write.Write.{Write}
use Rattle.lsm_wal.specs.declared.write_batch.WriteBatch.{WriteBatch}
use Rattle.lsm_import.specs.Answers.{NoneAbove, source_answer}
use Rattle.lsm_import.specs.Copied.{HasWrites}
use Rattle.lsm_import.specs.declared.copied.Copied.{Copied}
use Rattle.lsm_import.proofs.CallerLemmas.{Law}
use Rattle.lsm_mirror.specs.Shown.{IsBeside, IsShown, Shown}
use Rattle.lsm_preview.specs.Preview.{AreBelow, AreShownIn, HasMade, IsBase, IsReadOf, IsView}
use Rattle.lsm_preview.specs.Preview.{entries_of, entries_with, with_tables}
use Rattle.lsm_preview.proofs.PlacedLaws.{all_placed}
use Rattle.lsm_preview.proofs.ViewLaws.{view_answers}

-- ---- laws below

abbrev pub OneManifest : Type 0
OneManifest = (bytes : List ℕ) (es fs : List Change) (m n : ℕ) → IsManifest bytes es m
    → IsManifest bytes fs n → (es ≡ fs) × (m ≡ n)

abbrev pub OneTable : Type 0
OneTable = (bytes : List ℕ) (es : List Entry) → IsTable bytes es → entries_in bytes ≡ es

-- ---- the last sequence

last_of_one : (edit : Change) → last_sequence (edit ∷ []) ≡ edit.last
unfolding last_by
last_of_one edit = refl

same_some : (n m : ℕ) → Some n ≡ Some m → n ≡ m
same_some n m e = cc

base_edit : (shape : Form) (logs : List ℕ) (base : Copied) (was is : Told)
    → IsBase shape logs base was is → base.edit.last ≡ Some base.last
base_edit shape [] base was is b =
    ap (λ (c : Copied). c.edit.last) b.0 ∙ sym (ap (λ (c : Copied). Some c.last) b.0)
base_edit shape (n ∷ ns) base was is b =
    ap (λ (c : Copied). c.edit.last) b.2.is ∙ sym (ap (λ (c : Copied). Some c.last) b.2.is)

whole_edit_last : (Into : ℕ → List ℕ → Type 0) (first : ℕ) (batch : List Write)
    (old new : Copied) → old.edit.last ≡ Some old.last → HasWrites Into first batch old new
    → new.edit.last ≡ Some new.last
whole_edit_last Into first [] old new is has =
    ap (λ (c : Copied). c.edit.last) has ∙ is ∙ sym (ap (λ (c : Copied). Some c.last) has)
whole_edit_last Into first (w ∷ ws) old new is has =
    ap (λ (c : Copied). c.edit.last) has.2 ∙ sym (ap (λ (c : Copied). Some c.last) has.2)

version_last : (edit : Change) (shape : Form) (v : Levels) (last : ℕ)
    → IsReplayed (edit ∷ []) shape → IsOfShape shape v → edit.last ≡ Some last → v.last ≡ last
version_last edit shape v last replayed of_shape is =
    of_shape.last ∙ same_some shape.last last
    (sym replayed.last ∙ last_of_one edit ∙ is)

-- ---- entries of files

has_file : (fs : List File) (e : Entry) → Has (all_entries fs) e
    → (F : File) × Has fs F × Has F.entries e
has_file [] e h = absurd h
has_file (F ∷ fs) e h = elim (has_cases F.entries (all_entries fs) e h) [
  | inl k ↦ (F, inl refl, k)
  | inr k ↦ (let more = has_file fs e k in (more.0, inr more.1, more.2))
]

file_has : (fs : List File) (F : File) (e : Entry) → Has fs F → Has F.entries e
    → Has (all_entries fs) e
file_has [] F e h k = absurd h
file_has (G ∷ fs) F e (inl same) k = has_left G.entries (all_entries fs) e
    (subst (λ (X : File). Has X.entries e) (sym same) k)
file_has (G ∷ fs) F e (inr h) k = has_right G.entries (all_entries fs) e (file_has fs F e h k)

-- ---- tables of a version

level_has : (levels : List (List Table)) (n : ℕ) (t : Table) → Has (level_in levels n) t
    → Has levels (level_in levels n)
level_has [] n t h = absurd h
level_has (ts ∷ levels) zero t h = inl refl
level_has (ts ∷ levels) (suc n) t h = inr (level_has levels n t h)

given_at : (P : Table → Type 0) (levels : List (List Table)) → All (All P) levels → (n : ℕ)
    (t : Table) → Has (level_in levels n) t → P t
given_at P levels all n t h = all_at P (level_in levels n) t
    (all_at (All P) levels (level_in levels n) all (level_has levels n t h)) h

-- the table of a file
table_for : (last : ℕ) (fs : List TableFile) (ts : List Table) → AreFilesOf last fs ts
    → (f : TableFile) → Has fs f → (t : Table) × Has ts t × IsFileOf last f t
table_for last [] ts are f h = absurd h
table_for last (g ∷ fs) [] are f h = absurd are
table_for last (g ∷ fs) (t ∷ ts) are f (inl same) =
    (t, inl refl, subst (λ (x : TableFile). IsFileOf last x t) same are.0)
table_for last (g ∷ fs) (t ∷ ts) are f (inr h) =
    let more = table_for last fs ts are.1 f h in (more.0, inr more.1, more.2)

-- a file of level 0 has a table there
table_at_zero : (last : ℕ) (shape : List (List TableFile)) (read tables : List (List Table))
    → AreLevelsOf last shape read → tables ≡ placed_levels read → (f : TableFile)
    → Has (get_or shape 0 []) f
    → (t : Table) × Has (level_in tables 0) t × IsFileOf last f t
table_at_zero last [] read tables are placed f h = absurd h
table_at_zero last (fs ∷ shape) [] tables are placed f h = absurd are
table_at_zero last (fs ∷ shape) (ts ∷ read) tables are placed f h =
    let found = table_for last fs ts are.0 f h in (
      found.0,
      subst (λ (levels : List (List Table)). Has (level_in levels 0) found.0) (sym placed)
          (all_placed ts [] found.0 (inl found.1)),
      found.2,
    )

-- ---- the table of the logs

abbrev number_or : Option (ℕ × List ℕ) → ℕ
number_or None = 0
number_or (Some made) = made.0

abbrev image_or : Option (ℕ × List ℕ) → List ℕ
image_or None = []
image_or (Some made) = made.1

same_made : (shown : Shown) (m n : ℕ) (image other : List ℕ) → shown.made ≡ Some (m, image)
    → shown.made ≡ Some (n, other) → (m ≡ n) × (image ≡ other)
same_made shown m n image other a b = (ap number_or (sym a ∙ b), ap image_or (sym a ∙ b))

not_beside : (shown : Shown) (m : ℕ) (image : List ℕ) → shown.made ≡ Some (m, image)
    → IsBeside shown.made m → ⊥
not_beside shown m image is beside =
    subst (λ (made : Option (ℕ × List ℕ)). IsBeside made m) is beside refl

-- What is shown under the number of the table of the logs is that.
only_made : (From : ℕ → List ℕ → Type 0) (shown : Shown) (m number : ℕ) (image other : List ℕ)
    → shown.made ≡ Some (m, image) → number ≡ m → IsShown From shown number other
    → other ≡ image
only_made From shown m number image other is at (inl made) =
    (same_made shown number m other image made is).1
only_made From shown m number image other is at (inr below) =
    absurd (not_beside shown m image is (subst (IsBeside shown.made) at below.0))

-- the last of a list
has_last : {X : Type 0} (xs : List X) (x : X) → Has (xs ++ x ∷ []) x
has_last xs x = has_right xs (x ∷ []) x (inl refl)

-- The version has the table of the logs, with these entries.
logs_file : OneTable → (From : ℕ → List ℕ → Type 0) (shown : Shown) (first : ℕ)
    (batch : List Write) (old new : Copied) → HasWrites (HasMade shown) first batch old new
    → (shape : Form) (v : Levels) → IsReplayed (new.edit ∷ []) shape → IsOfShape shape v
    → AreShownIn From shown v → (e : Entry) → Has (entries_from first batch) e
    → Has (entries_of v) e
logs_file one From shown first [] old new has shape v replayed of_shape given e h = absurd h
logs_file one From shown first (w ∷ ws) old new has shape v replayed of_shape given e h =
    let file : FileAt = has.0 in
    let is = has.1 in
    let es = entries_from first (w ∷ ws) in
    let added : Has new.edit.added file =
    subst (λ (c : Copied). Has c.edit.added file) (sym has.2) (has_last old.edit.added file) in
    let placed : FileAt = record { level = 0; file = file.file } in
    let same : file ≡ placed = ap (λ (n : ℕ). record { level = n; file = file.file }) is.level in
    let listed : Has (get_or shape.levels 0 []) file.file =
    ((replayed.levels 0 (omega arith)).files file.file).1
    (inl (subst (Has new.edit.added) same added, tt)) in
    let found = table_at_zero shape.last shape.levels of_shape.read v.tables of_shape.files
    of_shape.placed file.file listed in
    let t : Table = found.0 in
    let at : t.number ≡ old.next = found.2.number ∙ is.number_is in
    let image : t.image ≡ is.image =
    only_made From shown old.next t.number is.image t.image is.put at
    (given_at (λ t. IsShown From shown t.number t.image) v.tables given 0 t found.1) in
    let entries : entries_in t.image ≡ es =
    ap entries_in image ∙ one is.image es is.table.table in
    file_has (files v) (file_of 0 t) e (in_files 0 v.tables 0 t found.1)
    (subst (λ (xs : List Entry). Has xs e) (sym entries) h)

-- Each entry of the version is of the logs' table, or of one that lies on the shelf.
file_entry : OneTable → (From : ℕ → List ℕ → Type 0) (shown : Shown) (first : ℕ)
    (batch : List Write) (old new : Copied) → HasWrites (HasMade shown) first batch old new
    → (new ≡ old → shown.made ≡ None) → (t : Table) → IsShown From shown t.number t.image
    → (e : Entry) → Has (entries_in t.image) e
    → Has (entries_from first batch) e ⊎ IsBeside shown.made t.number
file_entry one From shown first batch old new has none t (inr below) e h = inr below.0
file_entry one From shown first [] old new has none t (inl made) e h =
    (let no = none has in absurd (cc))
file_entry one From shown first (w ∷ ws) old new has none t (inl made) e h =
    let is = has.1 in
    let es = entries_from first (w ∷ ws) in
    let image : t.image ≡ is.image =
    (same_made shown t.number old.next t.image is.image made is.put).1 in
    inl (subst (λ (xs : List Entry). Has xs e)
    (ap entries_in image ∙ one is.image es is.table.table) h)

-- ---- the law

pub version_answers : Law → OneManifest → OneTable → (From : ℕ → List ℕ → Type 0)
    (inflates : Bool) (shape : Form) (logs : List ℕ) (batches : List WriteBatch) (shown : Shown)
    (entries : ℕ) (was is : Told)
    (w : IsView From inflates shape logs batches shown entries was is) (v : Levels)
    → IsReadOf From shown v → (es : List Entry) → AreBelow shown v es → NoneAbove shape.last es
    → (key : UserKey)
    → answer (entries_of v) key v.last ≡ source_answer es shape.last batches key
version_answers law manifests tables From inflates shape logs batches shown entries was is w v r es
    below none key =
    sym (same_answer (entries_of v) (entries_with w es) key v.last
    (one_each (files v) r.sound.lawful) there back)
    ∙ ap (answer (entries_with w es) key) last
    ∙ view_answers law From inflates shape logs batches shown entries was is w es none key
  where
    old : Copied
    old = with_tables w.base w.tables

    has : HasWrites (HasMade shown) w.brought.first w.brought.batch old w.whole
    has = w.brought.has

    replayed : IsReplayed (w.whole.edit ∷ []) r.shape
    replayed = subst (λ (edits : List Change). IsReplayed edits r.shape)
        (manifests shown.manifest r.edits (w.whole.edit ∷ []) r.rest 0 r.manifest w.manifest).0
        r.replayed

    last : v.last ≡ w.whole.last
    last = version_last w.whole.edit r.shape v w.whole.last replayed r.of_shape
        (whole_edit_last (HasMade shown) w.brought.first w.brought.batch old w.whole
        (base_edit shape logs w.base was is w.stands) has)

    there : (e : Entry) → Has (entries_with w es) e → Has (entries_of v) e
    there e h = elim (has_cases (entries_from w.brought.first w.brought.batch) es e h) [
      | inl k ↦ logs_file tables From shown w.brought.first w.brought.batch old w.whole has
          r.shape v replayed r.of_shape r.given e k
      | inr k ↦ (let f = (below e).0 k in file_has (files v) f.0 e f.1 f.2)
    ]

    back : (e : Entry) → Has (entries_of v) e → Has (entries_with w es) e
    back e h =
        let f = has_file (files v) e h in
        let place = file_in 0 v.tables f.0 f.1 in
        let t : Table = place.1 in
        let k : Has (entries_in t.image) e =
        subst (λ (X : File). Has X.entries e) (sym place.3) f.2 in
        let number : t.number ≡ f.0.number = ap (λ (X : File). X.number) place.3 in
        elim (file_entry tables From shown w.brought.first w.brought.batch old w.whole has w.none t
        (given_at (λ t. IsShown From shown t.number t.image) v.tables r.given place.0 t place.2) e
        k) [
          | inl own ↦ has_left (entries_from w.brought.first w.brought.batch) es e own
          | inr beside ↦ has_right (entries_from w.brought.first w.brought.batch) es e
              ((below e).1 (f.0, f.1, f.2, subst (IsBeside shown.made) number beside))
        ]
