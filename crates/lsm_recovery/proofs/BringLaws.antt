-- Writes of logs that came in.
use Rattle.std.proofs.Common.{◌≡◌, ℕ, ◌≤◌, ◌++◌, List, [], ◌∷◌, Some, refl, sym, ap, ◌∙◌, subst, inl, inr, arith}
use Rattle.lsm_codec.specs.Lists.{Has}
use Rattle.lsm_codec.specs.Entries.{Entry}
use Rattle.lsm_codec.proofs.CallerLemmas.{has_cases}
use Rattle.lsm_shelf.specs.Asked.{Asked}
use Rattle.lsm_shelf.specs.Told.{Becomes, Told, listing}
use Rattle.lsm_shelf.specs.declared.shelf_fault.ShelfFault.{ShelfFault}
use Rattle.lsm_manifest.specs.EditFit.{Change}
use Rattle.lsm_manifest.specs.Last.{last_by}
use Rattle.lsm_manifest.specs.Replay.{last_sequence}
use Rattle.lsm_manifest.specs.Shape.{Form}
use Rattle.lsm_model.specs.Files.{File, all_entries}
use Rattle.lsm_version.specs.Versions.{files}
use Rattle.lsm_wal.specs.declared.write_batch.WriteBatch.{WriteBatch}
use Rattle.lsm_directory.specs.Logs.{NoneUnread}
use Rattle.lsm_directory.specs.declared.folder.folder_file.FolderFile.{FolderFile}
use Rattle.lsm_import.specs.Answers.{NoneAbove}
use Rattle.lsm_import.specs.Copies.{OnlyPuts}
use Rattle.lsm_import.specs.Standing.{IsStanding}
use Rattle.lsm_import.specs.declared.copied.Copied.{Copied}
use Rattle.lsm_import.proofs.CallerLemmas.{Law, answers_from, only_puts}
use Rattle.lsm_log_files.specs.Logs.{AreLogs}
use Rattle.lsm_log_files.specs.Source.{ReadsManifest}
use Rattle.lsm_recovery.specs.Bringing.{AreTaken, BringsIn, BringsNone, IsBroughtIn, IsJudged}
use Rattle.lsm_recovery.specs.Bringing.{IsUnstanding, entries_of}
use Rattle.lsm_recovery.specs.declared.bring_fault.BringFault.{BringFault}

-- ---- what a shelf was told

pub reading_puts : (a b : Told) → ReadsManifest a b → OnlyPuts a b
reading_puts a b (inl h) = only_puts a b h
reading_puts a b (inr (number, bytes, h)) = record { place = h.place; gone = h.gone; starts = h.starts; written = h.written }

pub listing_puts : (numbers : List ℕ) (a b : Told) → Becomes (listing numbers a) b → OnlyPuts a b
listing_puts numbers a b h = record { place = h.place; gone = h.gone; starts = h.starts; written = h.written }

-- ---- what the database answers

has_file : (fs : List File) (e : Entry) → Has (all_entries fs) e → (F : File) × Has fs F × Has F.entries e
has_file [] e h = absurd h
has_file (F ∷ fs) e h = elim (has_cases F.entries (all_entries fs) e h) [
  | inl k ↦ (F, inl refl, k)
  | inr k ↦ (let more = has_file fs e k in (more.0, inr more.1, more.2))
]

last_of_one : (edit : Change) → last_sequence (edit ∷ []) ≡ edit.last
unfolding last_by
last_of_one edit = refl

same_some : (n m : ℕ) → Some n ≡ Some m → n ≡ m
same_some n m e = cc

-- the version's last sequence is the shape's
version_last : (Into : ℕ → List ℕ → Type 0) (Honest : Type 0) (shape : Form) (numbers : List ℕ) (standing : Copied) (stands : IsStanding shape numbers standing) (j : IsJudged Into Honest standing)
    → j.version.last ≡ shape.last
version_last Into Honest shape numbers standing stands j =
    let edit : standing.edit.last ≡ Some shape.last = ap (λ (c : Copied). c.edit.last) stands.is in
    let last : Some j.shape.last ≡ Some shape.last = sym j.replayed.last ∙ last_of_one standing.edit ∙ edit in
    j.of_shape.last ∙ same_some j.shape.last shape.last last

none_above : (Into : ℕ → List ℕ → Type 0) (Honest : Type 0) (shape : Form) (numbers : List ℕ) (standing : Copied) (stands : IsStanding shape numbers standing) (j : IsJudged Into Honest standing) → Honest
    → NoneAbove shape.last (entries_of j.version)
none_above Into Honest shape numbers standing stands j honest = λ e h.
    let o = has_file (files j.version) e h in
    subst (λ (n : ℕ). e.seq ≤ n) (version_last Into Honest shape numbers standing stands j) ((j.sound honest).reached o.0 e o.1 o.2)

pub brought : Law → (Into : ℕ → List ℕ → Type 0) (Honest : Type 0) (found : List FolderFile) (shape : Form) (batches : List WriteBatch) (count : ℕ) (was mid is : Told) (logs numbers : List ℕ) (standing : Copied)
    → AreLogs shape.log shape.prev_log found logs → AreTaken logs numbers was mid → IsStanding shape numbers standing → NoneUnread standing.next 0 found
    → IsBroughtIn Into Honest batches standing count mid is → BringsIn Into Honest found shape batches count was is
brought law Into Honest found shape batches count was mid is logs numbers standing those (tables, same, listed) stands none b =
    let s : IsStanding shape (logs ++ tables) standing = subst (λ (ns : List ℕ). IsStanding shape ns standing) same stands in
    let has = b.filled.logs in
    let j = b.filled.judged in
    let l : standing.last ≡ shape.last = ap (λ (c : Copied). c.last) s.is in
    record {
      logs = logs;
      those = those;
      tables = tables;
      mid = mid;
      listed = listed;
      standing = standing;
      stands = s;
      flushed = subst (λ (n : ℕ). NoneUnread n 0 found) (ap (λ (c : Copied). c.next) s.is) none;
      brought = b;
      answers = λ honest key.
          answers_from law Into (entries_of j.version) batches has.batch shape.last has.first standing b.whole l (none_above Into Honest shape (logs ++ tables) standing s j honest) has.last
          (omega (arith, l, has.above)) has.has key;
    }

-- ---- why the writes do not come in

pub unstanding : (Into : ℕ → List ℕ → Type 0) (Denied : Asked → ShelfFault → Type 0) (Honest : Type 0) (found : List FolderFile) (shape : Form) (batches : List WriteBatch) (was mid : Told) (logs numbers : List ℕ)
    (fault : BringFault) → AreLogs shape.log shape.prev_log found logs → AreTaken logs numbers was mid → IsUnstanding Into Denied Honest found shape numbers batches fault
    → BringsNone Into Denied Honest found shape batches was fault
unstanding Into Denied Honest found shape batches was mid logs numbers fault those (tables, same, listed) why =
    inr (logs, tables, mid, those, listed, subst (λ (ns : List ℕ). IsUnstanding Into Denied Honest found shape ns batches fault) same why)
