-- A manifest that is printed edit by edit.
use Rattle.std.proofs.Common.{◌≡◌, ℕ, suc, ◌+◌, ◌<◌, ◌≤◌, List, [], ◌∷◌, ◌++◌, length, get_or, take, codes, Err, refl, sym, ap, ◌∙◌, subst, append_assoc, append-nil, arith}
use Rattle.std.proofs.lemmas.List.{take_more, take_all, length-take-le}
use Rattle.lsm_manifest.specs.declared.edit_fault.EditFault.{EditFault}
use Rattle.lsm_manifest.specs.declared.edit_fault.EditFault.TheVariants.{OutOfMemory, UnknownTag, BadLevel, EditCut, BadEditKey}
use Rattle.lsm_manifest.specs.declared.log_fault.LogFault.{LogFault}
use Rattle.lsm_manifest.specs.declared.log_fault.LogFault.TheVariants.{OutOfMemory as NoMemory, LogChecksum, LogOrder, LogType}
use Rattle.lsm_manifest.specs.Log.{IsLog}
use Rattle.lsm_manifest.specs.LogReading.{log_at}
use Rattle.lsm_manifest.specs.LogView.{Fails as FailsLog}
use Rattle.lsm_manifest.specs.Edit.{IsEdit}
use Rattle.lsm_manifest.specs.EditReading.{edit_at}
use Rattle.lsm_manifest.specs.EditView.{Fails}
use Rattle.lsm_manifest.specs.EditFit.{Change}
use Rattle.lsm_requests.specs.declared.conversion.Conversion.TheVariants.{Manifest}
use Rattle.lsm_manifest.specs.Manifest.{AreEdits}
use Rattle.lsm_cmd_convert.specs.Converted.{HasBadEdit, Explains}
use Rattle.lsm_text.specs.Fault.{of_log, of_edit}
use Rattle.lsm_text.specs.ManifestPrinting.{edit_lines, edits_lines, number_line, manifest_text}

-- how far the records have been printed
pub record Printed (records : List (List ℕ)) (i : ℕ) (text : List ℕ) : Type 0 where
  pub edits : List Change
  pub decoded : AreEdits (take i records) edits
  pub text_is : text ≡ edits_lines 1 edits

edits_push : (rs : List (List ℕ)) (es : List Change) (r : List ℕ) (e : Change) → AreEdits rs es → IsEdit r e → AreEdits (rs ++ r ∷ []) (es ++ e ∷ [])
edits_push [] [] r e h k = (k, tt)
edits_push [] (f ∷ fs) r e h k = absurd h
edits_push (s ∷ ss) [] r e h k = absurd h
edits_push (s ∷ ss) (f ∷ fs) r e h k = (h.0, edits_push ss fs r e h.1 k)

edits_length : (rs : List (List ℕ)) (es : List Change) → AreEdits rs es → length es ≡ length rs
edits_length [] [] h = refl
edits_length [] (f ∷ fs) h = absurd h
edits_length (s ∷ ss) [] h = absurd h
edits_length (s ∷ ss) (f ∷ fs) h = let later = edits_length ss fs h.1 in omega (arith, later)

edits_lines_push : (n : ℕ) (es : List Change) (e : Change) → edits_lines n (es ++ e ∷ []) ≡ edits_lines n es ++ edit_lines (n + length es) e
unfolding edits_lines
edits_lines_push n [] e = append-nil (edit_lines n e) ∙ ap (λ m. edit_lines m e) (omega arith)
edits_lines_push n (f ∷ fs) e =
    let number : suc n + length fs ≡ n + suc (length fs) = omega arith in
    ap (λ (xs : List ℕ). edit_lines n f ++ xs) (edits_lines_push (suc n) fs e ∙ ap (λ m. edits_lines (suc n) fs ++ edit_lines m e) number)
    ∙ sym (append_assoc (edit_lines n f) (edits_lines (suc n) fs) (edit_lines (n + suc (length fs)) e))

pub printed_none : (records : List (List ℕ)) (text : List ℕ) → text ≡ [] → Printed records 0 text
unfolding edits_lines
printed_none records text e = record { edits = []; decoded = tt; text_is = e }

pub printed_more : (records : List (List ℕ)) (i : ℕ) (before after : List ℕ) (r : List ℕ) (e : Change) → i < length records → r ≡ get_or records i []
    → Printed records i before → IsEdit r e → after ≡ before ++ edit_lines (i + 1) e → Printed records (i + 1) after
printed_more records i before after r e h is p spelled added =
    let count : length p.edits ≡ i = edits_length (take i records) p.edits p.decoded ∙ length-take-le i records (omega arith) in
    let number : i + 1 ≡ 1 + length p.edits = omega (arith, count) in
    let own : IsEdit (get_or records i []) e = subst (λ (x : List ℕ). IsEdit x e) is spelled in
    record {
      edits = p.edits ++ e ∷ [];
      decoded = subst (λ (rs : List (List ℕ)). AreEdits rs (p.edits ++ e ∷ [])) (sym (take_more records i [] h))
          (edits_push (take i records) p.edits (get_or records i []) e p.decoded own);
      text_is = added ∙ ap (λ (xs : List ℕ). xs ++ edit_lines (i + 1) e) p.text_is
          ∙ ap (λ m. edits_lines 1 p.edits ++ edit_lines m e) number ∙ sym (edits_lines_push 1 p.edits e);
    }

pub printed_all : (records : List (List ℕ)) (i rest : ℕ) (before after : List ℕ) → length records ≤ i → Printed records i before
    → after ≡ before ++ number_line (codes "rest ") rest
    → (edits : List Change) × AreEdits records edits × (after ≡ manifest_text edits rest)
unfolding manifest_text
printed_all records i rest before after h p added = (
  p.edits,
  subst (λ (rs : List (List ℕ)). AreEdits rs p.edits) (take_all i records h) p.decoded,
  added ∙ ap (λ (xs : List ℕ). xs ++ number_line (codes "rest ") rest) p.text_is,
)

pub log_explained : (text : List ℕ) (fault : LogFault) → FailsLog fault (log_at text) → Explains Manifest text (of_log fault)
log_explained text NoMemory h = tt
log_explained text (LogChecksum offset) h = h
log_explained text (LogOrder offset) h = h
log_explained text (LogType offset) h = h

bad_edit : (text : List ℕ) (records : List (List ℕ)) (rest i : ℕ) (before r : List ℕ) (fault : EditFault) → IsLog text records rest → i < length records
    → r ≡ get_or records i [] → Printed records i before → edit_at r ≡ Err fault → HasBadEdit text fault
bad_edit text records rest i before r fault logged h is p bad = record {
  records = records;
  rest = rest;
  index = i;
  edits = p.edits;
  logged = logged;
  within = h;
  good = p.decoded;
  bad = ap edit_at (sym is) ∙ bad;
}

pub edit_explained : (text : List ℕ) (records : List (List ℕ)) (rest i : ℕ) (before r : List ℕ) (fault : EditFault) → IsLog text records rest
    → i < length records → r ≡ get_or records i [] → Printed records i before → Fails fault (edit_at r) → Explains Manifest text (of_edit fault)
edit_explained text records rest i before r OutOfMemory logged h is p f = tt
edit_explained text records rest i before r (UnknownTag tag) logged h is p f = bad_edit text records rest i before r (UnknownTag tag) logged h is p f
edit_explained text records rest i before r (BadLevel level) logged h is p f = bad_edit text records rest i before r (BadLevel level) logged h is p f
edit_explained text records rest i before r EditCut logged h is p f = bad_edit text records rest i before r EditCut logged h is p f
edit_explained text records rest i before r BadEditKey logged h is p f = bad_edit text records rest i before r BadEditKey logged h is p f
