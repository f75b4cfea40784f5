-- Tables that are shown plain, one after another.
use Rattle.std.proofs.Common.{◌≡◌, ◌∙◌, ℕ, zero, suc, ◌+◌, ◌<◌, ◌≤◌, List, [], ◌∷◌, ◌++◌, length}
use Rattle.std.proofs.Common.{get_or, take, refl, sym, ap, subst, inl, inr, append_assoc, arith}
use Rattle.std.proofs.lemmas.List.{append-nil, take_all, take_more}
use Rattle.std.specs.Prelude.{◌⊎◌, Bool, true, false, Some, Ok}
use Rattle.std.specs.List.{All}
use Rattle.std.proofs.lemmas.List.Elements.{All-cons, All-nil}
use Rattle.lsm_codec.specs.Lists.{Has}
use Rattle.lsm_codec.specs.Entries.{Entry}
use Rattle.lsm_codec.proofs.CallerLemmas.{all_at, has_cases}
use Rattle.lsm_shelf.specs.Asked.{Asked}
use Rattle.lsm_shelf.specs.declared.shelf_fault.ShelfFault.{ShelfFault}
use Rattle.lsm_table.specs.Table.{IsImage}
use Rattle.lsm_table.specs.declared.table_options.TableOptions.{TableOptions}
use Rattle.lsm_manifest.specs.EditFit.{FitsAdded, FitsKey}
use Rattle.lsm_manifest.specs.FileOrder.{TableFile}
use Rattle.lsm_manifest.specs.Replay.{FileAt}
use Rattle.lsm_inflate.specs.PackedReading.{inflated_at}
use Rattle.lsm_inflate.specs.PackedTable.{IsPackedTable}
use Rattle.lsm_import.specs.Copied.{IsFitting, usual}
use Rattle.lsm_import.specs.Copies.{IsCopyRefusal, IsPackedRefusal}
use Rattle.lsm_import.specs.LogTable.{NoneRefuses}
use Rattle.lsm_import.specs.declared.import_fault.ImportFault.{ImportFault}
use Rattle.lsm_import.specs.declared.import_fault.ImportFault.TheVariants as fault
use Rattle.lsm_import.specs.declared.copied.Copied.{Copied}
use Rattle.lsm_mirror.specs.Shown.{plain_or, shown_image}
use Rattle.lsm_preview.specs.Preview.{with_tables}
use Rattle.lsm_preview.specs.Tables.{ArePlainFiles, AreShownFiles, IsPlainFile}

-- ---- elements

pub has_at : {X : Type 0} (xs : List X) (i : ℕ) (x : X) → i < length xs → x ≡ get_or xs i x
    → Has xs x
has_at [] i x lt is = absurd (omega arith)
has_at (y ∷ ys) zero x lt is = inl (sym is)
has_at (y ∷ ys) (suc i) x lt is = inr (has_at ys i x (omega arith) is)

one_taken : {X : Type 0} (xs : List X) (i : ℕ) (x : X) → i < length xs → x ≡ get_or xs i x
    → take (i + 1) xs ≡ take i xs ++ x ∷ []
one_taken xs i x lt is = take_more xs i x lt ∙ ap (λ z. take i xs ++ z ∷ []) (sym is)

-- ---- one table

shown_plain : (packed plain : List ℕ) → inflated_at usual packed ≡ Ok (Some plain)
    → plain ≡ shown_image true packed
shown_plain packed plain h = sym (ap (plain_or packed) h)

pub plain_from : (From : ℕ → List ℕ → Type 0) (file shown : FileAt)
    (packed lent plain : List ℕ) (options : TableOptions) → lent ≡ packed → options ≡ usual
    → From file.file.number packed → length packed ≡ file.file.size
    → ((es : List Entry) × IsPackedTable lent es
    × IsImage es file.file.smallest file.file.largest plain)
    → inflated_at options lent ≡ Ok (Some plain) → shown.level ≡ file.level
    → shown.file.number ≡ file.file.number → shown.file.size ≡ length plain
    → shown.file.smallest ≡ file.file.smallest → shown.file.largest ≡ file.file.largest
    → (es : List Entry) × IsPlainFile From file shown es
plain_from From file shown packed lent plain options p q held sized made exact level number size
    smallest largest =
    let one : inflated_at usual packed ≡ Ok (Some plain) =
    subst (λ (o : TableOptions). inflated_at o packed ≡ Ok (Some plain)) q
    (subst (λ (b : List ℕ). inflated_at options b ≡ Ok (Some plain)) p exact) in (
      made.0,
      record {
        copy = record {
          packed = packed;
          plain = plain;
          held = held;
          spelled = subst (λ (b : List ℕ). IsPackedTable b made.0) p made.1;
          image = made.2;
          put = (packed, held, shown_plain packed plain one);
          level = level;
          number = number;
          size = size;
          smallest = smallest;
          largest = largest;
        };
        sized = sized;
      },
    )

-- ---- all tables

plain_push : (From : ℕ → List ℕ → Type 0) (fs ss : List FileAt) (f s : FileAt)
    (es own : List Entry) → ArePlainFiles From fs ss es → IsPlainFile From f s own
    → ArePlainFiles From (fs ++ f ∷ []) (ss ++ s ∷ []) (es ++ own)
plain_push From [] [] f s es own a is =
    (own, [], ap (λ (xs : List Entry). xs ++ own) a ∙ sym (append-nil own), is, refl)
plain_push From [] (x ∷ ss) f s es own a is = absurd a
plain_push From (x ∷ fs) [] f s es own a is = absurd a
plain_push From (x ∷ fs) (y ∷ ss) f s es own a is = (
  a.0,
  a.1 ++ own,
  ap (λ (xs : List Entry). xs ++ own) a.2 ∙ append_assoc a.0 a.1 own,
  a.3,
  plain_push From fs ss f s a.1 own a.4 is,
)

-- these files are plain so far
abbrev pub Shown : (From : ℕ → List ℕ → Type 0) → List FileAt → List FileAt → Type 0
Shown From fs ss = (es : List Entry) × ArePlainFiles From fs ss es

pub plain_none : (From : ℕ → List ℕ → Type 0) (fs ss : List FileAt) → ss ≡ []
    → Shown From (take 0 fs) ss
plain_none From [] ss is = subst (Shown From []) (sym is) ([], refl)
plain_none From (f ∷ fs) ss is = subst (Shown From []) (sym is) ([], refl)

pub plain_more : (From : ℕ → List ℕ → Type 0) (fs : List FileAt) (i : ℕ) (f : FileAt)
    (ss after : List FileAt) (s : FileAt) → i < length fs → f ≡ get_or fs i f
    → Shown From (take i fs) ss → ((es : List Entry) × IsPlainFile From f s es)
    → after ≡ ss ++ s ∷ [] → Shown From (take (i + 1) fs) after
plain_more From fs i f ss after s lt is so one step =
    subst (λ (xs : List FileAt). Shown From xs after) (sym (one_taken fs i f lt is))
    (subst (Shown From (take i fs ++ f ∷ [])) (sym step)
    (so.0 ++ one.0, plain_push From (take i fs) ss f s so.0 one.0 so.1 one.1))

pub plain_all : (From : ℕ → List ℕ → Type 0) (fs : List FileAt) (i : ℕ) (ss : List FileAt)
    → length fs ≤ i → Shown From (take i fs) ss → Shown From fs ss
plain_all From fs i ss done so = subst (λ (xs : List FileAt). Shown From xs ss)
    (take_all i fs done) so

-- ---- what fits

-- a file that is shown has the level and the keys of its file
file_of : (From : ℕ → List ℕ → Type 0) (fs ss : List FileAt) (es : List Entry)
    → ArePlainFiles From fs ss es → (s : FileAt) → Has ss s
    → (f : FileAt) × Has fs f × (s.level ≡ f.level) × (s.file.smallest ≡ f.file.smallest)
    × (s.file.largest ≡ f.file.largest)
file_of From [] [] es a s h = absurd h
file_of From [] (x ∷ ss) es a s h = absurd a
file_of From (f ∷ fs) [] es a s h = absurd a
file_of From (f ∷ fs) (x ∷ ss) es a s (inl e) =
    let copy = a.3.copy in (
      f,
      inl refl,
      ap (λ (y : FileAt). y.level) (sym e) ∙ copy.level,
      ap (λ (y : FileAt). y.file.smallest) (sym e) ∙ copy.smallest,
      ap (λ (y : FileAt). y.file.largest) (sym e) ∙ copy.largest,
    )
file_of From (f ∷ fs) (x ∷ ss) es a s (inr h) =
    let o = file_of From fs ss a.1 a.4 s h in
    (o.0, inr o.1, o.2, o.3, o.4)

all_from : {X : Type 0} (P : X → Type 0) (xs : List X) → ((x : X) → Has xs x → P x) → All P xs
all_from P [] each = All-nil P
all_from P (x ∷ xs) each = All-cons P x xs (each x (inl refl))
    (all_from P xs (λ y h. each y (inr h)))

fits_same : (s f : FileAt) → s.level ≡ f.level → s.file.smallest ≡ f.file.smallest
    → s.file.largest ≡ f.file.largest → FitsAdded f → FitsAdded s
fits_same s f l p q fit = (
  subst (λ (n : ℕ). n ≤ 6) (sym l) fit.0,
  subst FitsKey (sym p) fit.1,
  subst FitsKey (sym q) fit.2,
)

files_fit : (From : ℕ → List ℕ → Type 0) (inflates : Bool) (fs ss : List FileAt)
    → AreShownFiles From inflates fs ss → All FitsAdded fs → All FitsAdded ss
files_fit From true fs ss a fit = all_from FitsAdded ss (λ s h.
    let o = file_of From fs ss a.0 a.1 s h in
    fits_same s o.0 o.2 o.3 o.4 (all_at FitsAdded fs o.0 fit o.1))
files_fit From false fs ss a fit = subst (All FitsAdded) (sym a) fit

pub tables_fit : (From : ℕ → List ℕ → Type 0) (inflates : Bool) (base : Copied)
    (files : List FileAt) → IsFitting base → AreShownFiles From inflates base.edit.added files
    → IsFitting (with_tables base files)
tables_fit From inflates base files fit a = record {
  fits = record {
    comparator = fit.fits.comparator;
    pointers = fit.fits.pointers;
    deleted = fit.fits.deleted;
    added = files_fit From inflates base.edit.added files a fit.fits.added;
  };
  none = fit.none;
}

-- tables that are shown as they lie
pub same_tables : (From : ℕ → List ℕ → Type 0) (inflates : Bool) (base : Copied)
    → inflates ≡ false
    → (files : List FileAt) × (base ≡ with_tables base files)
    × AreShownFiles From inflates base.edit.added files
same_tables From inflates base is = (
  base.edit.added,
  refl,
  subst (λ (b : Bool). AreShownFiles From b base.edit.added base.edit.added) (sym is) refl,
)

pub plain_tables : (From : ℕ → List ℕ → Type 0) (inflates : Bool) (base c : Copied)
    (lent files : List FileAt) → inflates ≡ true → lent ≡ base.edit.added
    → c ≡ with_tables base files → Shown From lent files
    → (files : List FileAt) × (c ≡ with_tables base files)
    × AreShownFiles From inflates base.edit.added files
plain_tables From inflates base c lent files is q step so = (
  files,
  step,
  subst (λ (b : Bool). AreShownFiles From b base.edit.added files) (sym is)
      (subst (λ (fs : List FileAt). Shown From fs files) q so),
)

-- ---- refusals

pub packed_refused : (From : ℕ → List ℕ → Type 0) (Denied : Asked → ShelfFault → Type 0)
    (file : TableFile) (packed lent : List ℕ) (options : TableOptions) (e : ImportFault)
    → lent ≡ packed → options ≡ usual → From file.number packed
    → IsPackedRefusal options file lent e → IsCopyRefusal From Denied NoneRefuses usual file e
packed_refused From Denied file packed lent options e p q held h =
    at e (subst (λ (o : TableOptions). IsPackedRefusal o file packed e) q
    (subst (λ (b : List ℕ). IsPackedRefusal options file b e) p h))
  where
    at : (e : ImportFault) → IsPackedRefusal usual file packed e
        → IsCopyRefusal From Denied NoneRefuses usual file e
    at fault.OutOfMemory h = tt
    at (fault.Unread n e) h = absurd h
    at (fault.Packed n e) h = (packed, held, h)
    at (fault.WrongRange n) h = (packed, held, h)
    at (fault.Unwritten e) h = absurd h
    at fault.TooLarge h = absurd h
    at fault.SequencesSpent h = absurd h
    at fault.NumbersSpent h = absurd h
    at (fault.Replay e) h = absurd h
