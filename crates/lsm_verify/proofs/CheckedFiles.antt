-- One file of a shape: whether its table is the file's.
use Rattle.std.proofs.Common.{◌≡◌, ℕ, List, length, sym, ◌∙◌, subst}
use Rattle.lsm_codec.specs.Entries.{Entry}
use Rattle.lsm_table.specs.Table.{IsTable}
use Rattle.lsm_table.specs.HeldTable.{entries_in}
use Rattle.lsm_table.proofs.CallerLemmas.{table_held}
use Rattle.lsm_manifest.specs.FileOrder.{TableFile}
use Rattle.lsm_verify.specs.CheckedFiles.{IsSpanned, IsImageOf}
use Rattle.lsm_verify.specs.Loading.{IsJudged}
use Rattle.lsm_verify.specs.Settled.{AreSequencesOf}
use Rattle.lsm_verify.specs.declared.sequences.Sequences.{Sequences}

pub held_as : (image : List ℕ) (es : List Entry) → IsTable image es → es ≡ entries_in image
held_as image es t = sym (table_held image es t)

pub is_table : (image : List ℕ) (es : List Entry) → IsTable image es → IsTable image (entries_in image)
is_table image es t = subst (IsTable image) (held_as image es t) t

pub image_says : (last : ℕ) (file : TableFile) (image : List ℕ) (es : List Entry) (size : ℕ) → IsTable image es → size ≡ length image
    → size ≡ file.size → IsSpanned last file.smallest file.largest es → IsImageOf last file image
image_says last file image es size t long same spanned = record {
  table = is_table image es t;
  size = sym long ∙ same;
  spanned = subst (IsSpanned last file.smallest file.largest) (held_as image es t) spanned;
}

pub image_not : (last : ℕ) (file : TableFile) (image : List ℕ) (es : List Entry) (size : ℕ) → IsTable image es → size ≡ length image
    → ((size ≡ file.size) × IsSpanned last file.smallest file.largest es → ⊥) → IsImageOf last file image → ⊥
image_not last file image es size t long fails i = fails (long ∙ i.size, subst (IsSpanned last file.smallest file.largest) (sym (held_as image es t)) i.spanned)

-- ---- a table that was judged as that of a file

pub judged_from : (last : ℕ) (file : TableFile) (smallest largest image : List ℕ) (s : Sequences) → smallest ≡ file.smallest → largest ≡ file.largest → IsImageOf last file image
    → AreSequencesOf (entries_in image) s → IsJudged last smallest largest image s
judged_from last file smallest largest image s low high i own = record {
  table = i.table;
  spanned = subst (λ (key : List ℕ). IsSpanned last key largest (entries_in image)) (sym low) (subst (λ (key : List ℕ). IsSpanned last file.smallest key (entries_in image)) (sym high) i.spanned);
  sequences = own;
}

pub judged_is : (last own : ℕ) (file : TableFile) (smallest largest image : List ℕ) (s : Sequences) → IsJudged own smallest largest image s → own ≡ last → length image ≡ file.size
    → smallest ≡ file.smallest → largest ≡ file.largest → IsImageOf last file image
judged_is last own file smallest largest image s j same size low high = record {
  table = j.table;
  size = size;
  spanned = subst (λ (n : ℕ). IsSpanned n file.smallest file.largest (entries_in image)) same
      (subst (λ (key : List ℕ). IsSpanned own key file.largest (entries_in image)) low (subst (λ (key : List ℕ). IsSpanned own smallest key (entries_in image)) high j.spanned));
}
