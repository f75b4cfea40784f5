-- A list that is read entry by entry.
use Rattle.std.proofs.Common.{◌≡◌, ℕ, ◌≤◌, ◌^◌, inl, inr, true, List, [], ◌∷◌, ◌++◌, length, Option, Some, None, Result, Ok, Err, refl, sym, ap, ◌∙◌, subst, append_assoc, append-nil}
use Rattle.lsm_codec.specs.Entries.{Entry, entry_cmp}
use Rattle.lsm_block.specs.Block.{Ascends}
use Rattle.lsm_text.specs.EntryList.{IsEntryList, IsFirstBadLine}
use Rattle.lsm_text.specs.EntryReading.{may_follow, in_front, joined, list_at}
use Rattle.lsm_text.specs.declared.entry_reader.EntryReader.{EntryReader}
use Rattle.lsm_text.specs.declared.entry_reader.LineFault.{LineFault}
use Rattle.lsm_text.specs.declared.entry_reader.LineFault.TheVariants.{BadLine, OutOfMemory}
use Rattle.lsm_requests.specs.declared.conversion.Conversion.{Conversion}
use Rattle.lsm_requests.specs.declared.conversion.Conversion.TheVariants.{MakeTable}
use Rattle.lsm_text.specs.declared.fault.Fault.{Fault}
use Rattle.std.specs.Prelude.{IfErr, IsErrAnd}
use Rattle.lsm_text.specs.ReaderView.{before_of, rest_of, Stops}
use Rattle.lsm_block.specs.declared.build_fault.BuildFault.{BuildFault}
use Rattle.lsm_block.specs.declared.build_fault.BuildFault.TheVariants.{OutOfMemory as NoMemory, TooLarge}
use Rattle.lsm_table.specs.TableBuilding.{PassesLimit, index_block, groups_by}
use Rattle.lsm_text.specs.Fault.{of_line, of_build}
use Rattle.lsm_cmd_convert.specs.Converted.{Explains, usual}
use Rattle.lsm_text.proofs.CallerLemmas.{list_takes, list_bad, is_less}

-- the last entry, if there is one
abbrev pub last_entry : List Entry → Option Entry
last_entry [] = None
last_entry (e ∷ []) = Some e
last_entry (e ∷ f ∷ es) = last_entry (f ∷ es)

-- how far the text has been read: what was read, and what is left
pub record IsAt (text : List ℕ) (entries : List Entry) (before : Option Entry) (rest : Result (List Entry) ℕ) : Type 0 where
  pub whole : list_at text ≡ joined entries rest
  pub last : before ≡ last_entry entries
  pub ascends : Ascends entries

joined-front : (front : List Entry) (e : Entry) (r : Result (List Entry) ℕ) → joined front (in_front e r) ≡ joined (front ++ e ∷ []) r
joined-front front e (Ok es) = ap (λ (xs : List Entry). Ok xs) (sym (append_assoc front (e ∷ []) es))
joined-front front e (Err i) = refl

last_entry-push : (es : List Entry) (e : Entry) → last_entry (es ++ e ∷ []) ≡ Some e
last_entry-push [] e = refl
last_entry-push (f ∷ []) e = refl
last_entry-push (f ∷ g ∷ es) e = last_entry-push (g ∷ es) e

pub ascends_push : (es : List Entry) (e : Entry) → Ascends es → may_follow (last_entry es) e ≡ true → Ascends (es ++ e ∷ [])
ascends_push [] e a h = tt
ascends_push (f ∷ []) e a h = (is_less (entry_cmp f e) h, tt)
ascends_push (f ∷ g ∷ es) e a h = (a.0, ascends_push (g ∷ es) e a.1 h)

pub next_ascends : (text : List ℕ) (es : List Entry) (e : Entry) (before : Option Entry) (rest : Result (List Entry) ℕ)
    → IsAt text es before rest → may_follow before e ≡ true → Ascends (es ++ e ∷ [])
next_ascends text es e before rest at h = ascends_push es e at.ascends (ap (λ (b : Option Entry). may_follow b e) (sym at.last) ∙ h)

pub at_next : (text : List ℕ) (es : List Entry) (e : Entry) (before after : Option Entry) (rest later : Result (List Entry) ℕ)
    → IsAt text es before rest → rest ≡ in_front e later → may_follow before e ≡ true → after ≡ Some e → IsAt text (es ++ e ∷ []) after later
at_next text es e before after rest later at r h a = record {
  whole = at.whole ∙ ap (joined es) r ∙ joined-front es e later;
  last = a ∙ sym (last_entry-push es e);
  ascends = next_ascends text es e before rest at h;
}

pub at_end : (text : List ℕ) (es : List Entry) (before : Option Entry) (rest : Result (List Entry) ℕ) → IsAt text es before rest → rest ≡ Ok []
    → IsEntryList text es
at_end text es before rest at r = list_takes text es (at.whole ∙ ap (joined es) r ∙ ap (λ (xs : List Entry). Ok xs) (append-nil es))

pub at_bad : (text : List ℕ) (es : List Entry) (before : Option Entry) (rest : Result (List Entry) ℕ) (i : ℕ) → IsAt text es before rest → rest ≡ Err i
    → IsFirstBadLine text i
at_bad text es before rest i at r = list_bad text i (at.whole ∙ ap (joined es) r)

pub line_explained : (text : List ℕ) (es : List Entry) (e : LineFault) (r : EntryReader) → IsAt text es (before_of r) (rest_of r) → Stops e r
    → Explains MakeTable text (of_line e)
line_explained text es (BadLine i) r at h = at_bad text es (before_of r) (rest_of r) i at h
line_explained text es OutOfMemory r at h = tt

pub explained_err : {A : Type 0} (name : Conversion) (text : List ℕ) (r : Result A Fault) (f : Fault) → IsErrAnd r (λ e. e ≡ f) → Explains name text f
    → IfErr r (λ e. Explains name text e)
explained_err name text (Ok x) f h k = tt
explained_err name text (Err e) f h k = subst (λ (x : Fault). Explains name text x) (sym h) k

-- ---- a block that would be too large

pub add_explained : (text : List ℕ) (es : List Entry) (e : Entry) (before : Option Entry) (rest later : Result (List Entry) ℕ) (fault : BuildFault)
    → IsAt text es before rest → rest ≡ in_front e later → (fault ≡ TooLarge → PassesLimit usual es e) → Explains MakeTable text (of_build fault)
add_explained text es e before rest later NoMemory at r large = tt
add_explained text es e before rest later TooLarge at r large = inl (es, e, (later, at.whole ∙ ap (joined es) r ∙ joined-front es e later), large refl)

pub finish_explained : (text : List ℕ) (es : List Entry) (before : Option Entry) (rest : Result (List Entry) ℕ) (fault : BuildFault)
    → IsAt text es before rest → (fault ≡ TooLarge → 2 ^ 32 ≤ length (index_block usual.restart_interval (groups_by usual es)))
    → Explains MakeTable text (of_build fault)
finish_explained text es before rest NoMemory at large = tt
finish_explained text es before rest TooLarge at large = inr (es, (rest, at.whole), large refl)
