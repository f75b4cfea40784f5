-- A view of a database.
use Rattle.std.proofs.Common.{◌≡◌, ◌∙◌, ℕ, ◌+◌, ◌<◌, ◌≤◌, List, [], ◌∷◌, ◌++◌, length, refl, sym}
use Rattle.std.proofs.Common.{ap, subst, inl, inr, arith}
use Rattle.std.specs.Prelude.{Bool, Option, Some, None}
use Rattle.lsm_codec.specs.Entries.{Entry, answer}
use Rattle.lsm_codec.specs.Keys.{UserKey}
use Rattle.lsm_shelf.proofs.CallerLemmas.{becomes_same, becomes_then}
use Rattle.lsm_shelf.specs.Asked.{Asked}
use Rattle.lsm_shelf.specs.Told.{Becomes, Told}
use Rattle.lsm_shelf.specs.declared.shelf_fault.ShelfFault.{ShelfFault}
use Rattle.lsm_table.specs.declared.table_options.TableOptions.{TableOptions}
use Rattle.lsm_manifest.specs.EditWriting.{edit_text}
use Rattle.lsm_manifest.specs.LogWriting.{record_text}
use Rattle.lsm_manifest.specs.Manifest.{IsManifest}
use Rattle.lsm_manifest.specs.Replay.{FileAt}
use Rattle.lsm_manifest.specs.Shape.{Form}
use Rattle.lsm_wal.specs.declared.write_batch.WriteBatch.{WriteBatch}
use Rattle.lsm_import.specs.Answers.{NoneAbove, source_answer}
use Rattle.lsm_import.specs.Copied.{HasLogs, IsLogsRefusal, usual}
use Rattle.lsm_import.specs.LogTable.{IsMade, NoneRefuses}
use Rattle.lsm_import.specs.Standing.{IsStanding}
use Rattle.lsm_import.specs.declared.copied.Copied.{Copied}
use Rattle.lsm_import.specs.declared.import_fault.ImportFault.{ImportFault}
use Rattle.lsm_import.specs.declared.log_table.LogTable.{LogTable}
use Rattle.lsm_import.proofs.CallerLemmas.{Law, answers_from, logs_into, writes_came}
use Rattle.lsm_mirror.specs.Shown.{Shown}
use Rattle.lsm_preview.specs.Preview.{AreTaken, HasMade, IsBase, IsNoView, IsView, entries_with}
use Rattle.lsm_preview.specs.Preview.{pair_of, unmoved, with_tables}
use Rattle.lsm_preview.specs.Tables.{AreShownFiles}
use Rattle.lsm_preview.specs.declared.preview_fault.PreviewFault.TheVariants.{Unmade}

-- ---- the database as it stands

pub base_none : (shape : Form) (logs : List ℕ) (base : Copied) (t : Told) → length logs ≡ 0
    → base ≡ unmoved shape → IsBase shape logs base t t
base_none shape [] base t none is = (is, becomes_same t)
base_none shape (n ∷ ns) base t none is = absurd (omega arith)

pub base_some : (shape : Form) (logs numbers : List ℕ) (base : Copied) (was is : Told)
    → 0 < length logs → AreTaken logs numbers was is → IsStanding shape numbers base
    → IsBase shape logs base was is
base_some shape [] numbers base was is some taken stands = absurd (omega arith)
base_some shape (n ∷ ns) numbers base was is some taken stands = (numbers, taken, stands)

pub base_then : (shape : Form) (logs : List ℕ) (base : Copied) (was mid is : Told)
    → IsBase shape logs base was mid → Becomes mid is → IsBase shape logs base was is
base_then shape [] base was mid is b more = (b.0, becomes_then was mid is b.1 more)
base_then shape (n ∷ ns) base was mid is b more =
    (b.0, (b.1.0, b.1.1, becomes_then _ mid is b.1.2 more), b.2)

base_last : (shape : Form) (logs : List ℕ) (base : Copied) (was is : Told)
    → IsBase shape logs base was is → base.last ≡ shape.last
base_last shape [] base was is b = ap (λ (c : Copied). c.last) b.0
base_last shape (n ∷ ns) base was is b = ap (λ (c : Copied). c.last) b.2.is

-- ---- the table of the logs

made_is : (table : Option LogTable) (number : ℕ) (image : List ℕ) → IsMade table number image
    → pair_of table ≡ Some (number, image)
made_is None number image h = absurd h
made_is (Some table) number image h = cc

none_is : (table : Option LogTable) → table ≡ None → pair_of table ≡ None
none_is table is = ap pair_of is

-- ---- the view

-- tables are shown so
abbrev pub IsShownSo : (ℕ → List ℕ → Type 0) → Bool → Copied → Copied → Type 0
IsShownSo From inflates base tables = (files : List FileAt) × (tables ≡ with_tables base files)
    × AreShownFiles From inflates base.edit.added files

pub view_from : (From : ℕ → List ℕ → Type 0) (inflates : Bool) (shape : Form) (logs : List ℕ)
    (batches : List WriteBatch) (was mid is : Told) (base tables whole : Copied)
    (table : Option LogTable) (shown : Shown) (entries : ℕ) → IsBase shape logs base was mid
    → Becomes mid is → base.writes ≡ 0 → IsShownSo From inflates base tables
    → HasLogs (IsMade table) batches tables whole → (whole ≡ tables → table ≡ None)
    → shown.made ≡ pair_of table → entries ≡ whole.writes
    → shown.manifest ≡ record_text 0 (edit_text whole.edit)
    → IsManifest (record_text 0 (edit_text whole.edit)) (whole.edit ∷ []) 0
    → shown.inflates ≡ inflates → IsView From inflates shape logs batches shown entries was is
view_from From inflates shape logs batches was mid is base tables whole table shown entries stands
    more writes (files, same, so) has none made counted bytes manifest plain =
    view_of (logs_into (IsMade table) (HasMade shown)
    (λ number image h. made ∙ made_is table number image h) batches (with_tables base files) whole
    (subst (λ (c : Copied). HasLogs (IsMade table) batches c whole) same has))
  where
    view_of : HasLogs (HasMade shown) batches (with_tables base files) whole
        → IsView From inflates shape logs batches shown entries was is
    view_of brought = record {
      base = base;
      stands = base_then shape logs base was mid is stands more;
      tables = files;
      files = so;
      whole = whole;
      brought = brought;
      none = λ unchanged. made ∙ none_is table (none (unchanged ∙ sym same));
      counted = counted ∙ writes_came (HasMade shown) batches (with_tables base files) whole writes
          brought;
      bytes = bytes;
      manifest = subst (λ (b : List ℕ). IsManifest b (whole.edit ∷ []) 0) (sym bytes) manifest;
      plain = plain;
    }

-- tables that are shown, and the logs' writes do not come in
pub logs_unshown : (From : ℕ → List ℕ → Type 0) (Denied : Asked → ShelfFault → Type 0)
    (inflates : Bool) (shape : Form) (logs : List ℕ) (batches : List WriteBatch)
    (was mid is : Told) (base tables : Copied) (options : TableOptions) (e : ImportFault)
    → IsBase shape logs base was mid → Becomes mid is → IsShownSo From inflates base tables
    → options ≡ usual → IsLogsRefusal NoneRefuses options batches tables e
    → IsNoView From Denied inflates shape logs batches was (Unmade e)
logs_unshown From Denied inflates shape logs batches was mid is base tables options e stands more
    (files, same, so) usually want =
    inr (
      base,
      is,
      base_then shape logs base was mid is stands more,
      (
        e,
        refl,
        inr (
          files,
          so,
          subst (λ (o : TableOptions).
              IsLogsRefusal NoneRefuses o batches (with_tables base files) e) usually
              (subst (λ (c : Copied). IsLogsRefusal NoneRefuses options batches c e) same want),
        ),
      ),
    )

pub view_answers : Law → (From : ℕ → List ℕ → Type 0) (inflates : Bool) (shape : Form)
    (logs : List ℕ) (batches : List WriteBatch) (shown : Shown) (entries : ℕ) (was is : Told)
    (v : IsView From inflates shape logs batches shown entries was is) (es : List Entry)
    → NoneAbove shape.last es → (key : UserKey)
    → answer (entries_with v es) key v.whole.last ≡ source_answer es shape.last batches key
view_answers law From inflates shape logs batches shown entries was is v es none key =
    let l : v.base.last ≡ shape.last = base_last shape logs v.base was is v.stands in
    answers_from law (HasMade shown) es batches v.brought.batch shape.last v.brought.first
    (with_tables v.base v.tables) v.whole l none v.brought.last
    (omega (arith, l, v.brought.above)) v.brought.has key
