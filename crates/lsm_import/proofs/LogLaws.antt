-- The table of the logs.
use Rattle.std.proofs.Common.{◌≡◌, ℕ, suc, ◌+◌, ◌^◌, ◌<◌, ◌≤◌, List, [], ◌∷◌, length, refl, sym, ap}
use Rattle.std.proofs.Common.{◌∙◌, subst, inl, inr, arith}
use Rattle.std.specs.Prelude.{◌⊎◌, Option, None, Some, Result, Ok, Err, IfErr, IfOk, OnOk}
use Rattle.lsm_codec.specs.Lists.{Has}
use Rattle.lsm_codec.specs.Entries.{Entry, internal_key}
use Rattle.lsm_codec.specs.Keys.{IsKey}
use Rattle.lsm_codec.proofs.CallerLemmas.{has_right, internal_of, length-key_bytes}
use Rattle.lsm_shelf.specs.Asked.{Asked}
use Rattle.lsm_shelf.specs.declared.shelf_fault.ShelfFault.{ShelfFault}
use Rattle.lsm_table.specs.Table.{IsImage}
use Rattle.lsm_table.specs.declared.table_options.TableOptions.{TableOptions}
use Rattle.lsm_manifest.specs.EditFit.{FitsAdded, FitsKey}
use Rattle.lsm_manifest.specs.Replay.{FileAt}
use Rattle.lsm_batch.specs.Batches.{entries_from}
use Rattle.lsm_batch.specs.LastWrites.{KeepsLast}
use Rattle.lsm_batch.specs.declared.write.Write.{Write}
use Rattle.lsm_wal.specs.WriteLog.{after, writes_of}
use Rattle.lsm_wal.specs.declared.write_batch.WriteBatch.{WriteBatch}
use Rattle.lsm_import.specs.Copies.{IsPutRefusal}
use Rattle.lsm_import.specs.Copied.{HasLogs, HasWrites, IsFitting, IsLogFile, IsLogsRefusal}
use Rattle.lsm_import.specs.Copied.{IsTableRefusal, with_file}
use Rattle.lsm_import.specs.LogTable.{IsMade, NoneRefuses}
use Rattle.lsm_import.specs.declared.copied.Copied.{Copied}
use Rattle.lsm_import.specs.declared.import_fault.ImportFault.{ImportFault}
use Rattle.lsm_import.specs.declared.import_fault.ImportFault.TheVariants.{OutOfMemory, TooLarge}
use Rattle.lsm_import.specs.declared.import_fault.ImportFault.TheVariants as fault
use Rattle.lsm_import.specs.declared.log_table.LogTable.{LogTable}
use Rattle.lsm_import.proofs.CopyLaws.{fits_push}

fits_key : (s : List ℕ) (e : Entry) → IsKey s (internal_key e) → length s < 2 ^ 32 → FitsKey s
fits_key s e is short = record { short = short; internal = internal_of s (internal_key e) is }

pub file_fits : (es : List Entry) (s l b s' l' : List ℕ) (r : Result FileAt ImportFault)
    → IsImage es s l b → s' ≡ s → l' ≡ l → IfOk r (λ f. f.level ≡ 0)
    → IfOk r (λ f. f.file.smallest ≡ s')
    → IfOk r (λ f. f.file.largest ≡ l') → OnOk r ((length s' < 2 ^ 32) × (length l' < 2 ^ 32))
    → IfOk r FitsAdded
file_fits es s l b s' l' (Err e) i p q level small large short = tt
file_fits es s l b s' l' (Ok f) i p q level small large short = (
  (let n : f.level ≡ 0 = level in omega arith),
  subst FitsKey (sym small)
      (subst FitsKey (sym p)
      (fits_key s i.first i.smallest_is (subst (λ (k : List ℕ). length k < 2 ^ 32) p short.0))),
  subst FitsKey (sym large)
      (subst FitsKey (sym q)
      (fits_key l i.last i.largest_is (subst (λ (k : List ℕ). length k < 2 ^ 32) q short.1))),
)

long_key : (s : List ℕ) (e : Entry) → IsKey s (internal_key e) → 2 ^ 32 ≤ length s
    → 2 ^ 32 ≤ length e.user + 8
long_key s e is long = (let a = ap length is.bytes_are ∙ length-key_bytes (internal_key e) in
    omega arith)

pub table_refused : (Denied : Asked → ShelfFault → Type 0) (options : TableOptions)
    (es : List Entry) (number : ℕ) (s l b s' l' : List ℕ) (r : Result FileAt ImportFault)
    → IsImage es s l b → s' ≡ s → l' ≡ l
    → IfErr r (λ e. (e ≡ OutOfMemory)
    ⊎ ((e ≡ TooLarge) × ((2 ^ 32 ≤ length s') ⊎ (2 ^ 32 ≤ length l'))))
    → IfErr r (IsTableRefusal Denied options es number)
table_refused Denied options es number s l b s' l' (Ok f) i p q h = tt
table_refused Denied options es number s l b s' l' (Err e) i p q (inl m) =
    inr ([], subst (IsPutRefusal Denied number []) (sym m) tt)
table_refused Denied options es number s l b s' l' (Err e) i p q (inr x) =
    inl (x.0, inr (large x.1))
  where
    large : (2 ^ 32 ≤ length s') ⊎ (2 ^ 32 ≤ length l') → (y : Entry) × Has es y
        × (2 ^ 32 ≤ length y.user + 8)
    large (inl n) = (
      i.first,
      subst (λ (xs : List Entry). Has xs i.first) (sym i.begins)
          (inl refl),
      long_key s i.first i.smallest_is
          (subst (λ (k : List ℕ). 2 ^ 32 ≤ length k) p n),
    )
    large (inr n) = (
      i.last,
      subst (λ (xs : List Entry). Has xs i.last) (sym i.ends)
          (has_right i.front (i.last ∷ []) i.last (inl refl)),
      long_key l i.last i.largest_is
          (subst (λ (k : List ℕ). 2 ^ 32 ≤ length k) q n),
    )

-- ---- a table that is put once it is made

pub logs_into : (Into Shows : ℕ → List ℕ → Type 0)
    → ((number : ℕ) (image : List ℕ) → Into number image → Shows number image)
    → (batches : List WriteBatch) (old new : Copied) → HasLogs Into batches old new
    → HasLogs Shows batches old new
logs_into Into Shows shows batches old new h = record {
  batch = h.batch;
  first = h.first;
  last = h.last;
  above = h.above;
  behind = h.behind;
  has = at h.batch h.has;
}
  where
    at : (batch : List Write) → HasWrites Into h.first batch old new
        → HasWrites Shows h.first batch old new
    at [] has = has
    at (w ∷ ws) has =
        let file = has.1 in (
          has.0,
          record {
            image = file.image;
            put = shows old.next file.image file.put;
            table = file.table;
            level = file.level;
            number_is = file.number_is;
            size = file.size;
          },
          has.2,
        )

-- what no shelf refuses, no shelf refuses
put_refused : (Denied : Asked → ShelfFault → Type 0) (number : ℕ) (image : List ℕ)
    (e : ImportFault) → IsPutRefusal NoneRefuses number image e → IsPutRefusal Denied number image e
put_refused Denied number image fault.OutOfMemory h = tt
put_refused Denied number image (fault.Unread n e) h = absurd h
put_refused Denied number image (fault.Packed n e) h = absurd h
put_refused Denied number image (fault.WrongRange n) h = absurd h
put_refused Denied number image (fault.Unwritten e) h = absurd h
put_refused Denied number image fault.TooLarge h = absurd h
put_refused Denied number image fault.SequencesSpent h = absurd h
put_refused Denied number image fault.NumbersSpent h = absurd h
put_refused Denied number image (fault.Replay e) h = absurd h

pub logs_refused : (Denied : Asked → ShelfFault → Type 0) (options : TableOptions)
    (batches : List WriteBatch) (old : Copied) (e : ImportFault)
    → IsLogsRefusal NoneRefuses options batches old e
    → IsLogsRefusal Denied options batches old e
logs_refused Denied options batches old e (inl memory) = inl memory
logs_refused Denied options batches old e (inr (batch, kept, inl spent)) =
    inr (batch, kept, inl spent)
logs_refused Denied options batches old e (inr (batch, kept, inr (inl spent))) =
    inr (batch, kept, inr (inl spent))
logs_refused Denied options batches old e (inr (batch, kept, inr (inr (first, inl large)))) =
    inr (batch, kept, inr (inr (first, inl large)))
logs_refused Denied options batches old e
    (inr (batch, kept, inr (inr (first, inr (image, want))))) =
    inr (batch, kept, inr (inr (first, inr (image, put_refused Denied old.next image e want))))

-- the table was made, and its shelf refuses it
pub table_unput : (Denied : Asked → ShelfFault → Type 0) (options : TableOptions)
    (batches : List WriteBatch) (old new : Copied) (table : Option LogTable) (e : ImportFault)
    → HasLogs (IsMade table) batches old new → (new ≡ old → table ≡ None)
    → ((t : LogTable) × (table ≡ Some t) × IsPutRefusal Denied t.number t.image.items e)
    → IsLogsRefusal Denied options batches old e
table_unput Denied options batches old new table e h none (t, is, want) = at h.batch h.last h.has
  where
    number_is : (image : List ℕ) → IsMade table old.next image → t.number ≡ old.next
    number_is image made = (subst (λ (o : Option LogTable). IsMade o old.next image) is made).0

    at : (batch : List Write) → KeepsLast (writes_of batches) batch
        → HasWrites (IsMade table) h.first batch old new
        → IsLogsRefusal Denied options batches old e
    at [] kept has = (let no = none has in absurd (cc))
    at (w ∷ ws) kept has = inr (
      w ∷ ws,
      kept,
      inr (inr (
        h.first,
        inr (
          t.image.items,
          subst (λ (n : ℕ). IsPutRefusal Denied n t.image.items e)
              (number_is has.1.image has.1.put) want,
        ),
      )),
    )

-- ---- what comes in

pub logs_none : (Into : ℕ → List ℕ → Type 0) (batches bs : List WriteBatch) (batch : List Write)
    (old : Copied) → KeepsLast (writes_of bs) batch → bs ≡ batches → length batch ≡ 0
    → HasLogs Into batches old old
logs_none Into batches bs [] old kept same empty = record {
  batch = [];
  first = suc old.last + after 0 batches;
  last = subst (λ (xs : List WriteBatch). KeepsLast (writes_of xs) []) same kept;
  above = omega arith;
  behind = omega arith;
  has = refl;
}
logs_none Into batches bs (w ∷ ws) old kept same empty = absurd (omega arith)

pub logs_some : (Into : ℕ → List ℕ → Type 0) (batches bs : List WriteBatch) (batch : List Write)
    (old new : Copied) (first count : ℕ) (file : FileAt) → KeepsLast (writes_of bs) batch
    → bs ≡ batches
    → count ≡ length batch → 0 < length batch → old.last < first → after 0 batches ≤ first
    → IsLogFile Into (entries_from first batch) old.next file
    → new ≡ with_file old file first count → HasLogs Into batches old new
logs_some Into batches bs [] old new first count file kept same counted some above behind is step =
    absurd (omega arith)
logs_some Into batches bs (w ∷ ws) old new first count file kept same counted some above behind is
    step = record {
      batch = w ∷ ws;
      first = first;
      last = subst (λ (xs : List WriteBatch). KeepsLast (writes_of xs) (w ∷ ws)) same kept;
      above = above;
      behind = behind;
      has = (file, is, subst (λ (n : ℕ). new ≡ with_file old file first n) counted step);
    }

pub logs_fit : (old new : Copied) (file : FileAt) (first count : ℕ) → IsFitting old → FitsAdded file
    → new ≡ with_file old file first count → IsFitting new
logs_fit old new file first count fit one step = subst IsFitting (sym step) (record {
  fits = record {
    comparator = fit.fits.comparator;
    pointers = fit.fits.pointers;
    deleted = fit.fits.deleted;
    added = fits_push old.edit.added file fit.fits.added one;
  };
  none = fit.none;
})
