-- Reading fields one after the other, as a loop does.
use Rattle.std.proofs.Common.{◌≡◌, ℕ, zero, suc, ◌+◌, ◌-◌, ◌<◌, ◌≤◌, List, [], ◌∷◌, ◌++◌, length, Result, Ok, Err, refl, sym, ap, ◌∙◌, append_assoc, arith}
use Rattle.std.proofs.lemmas.List.{append-nil}
use Rattle.lsm_manifest.specs.declared.edit_fault.EditFault.{EditFault}
use Rattle.lsm_manifest.specs.declared.edit_fault.EditFault.TheVariants.{OutOfMemory, UnknownTag, BadLevel, EditCut, BadEditKey}
use Rattle.lsm_manifest.specs.declared.edit.Edit.{Edit}
use Rattle.lsm_manifest.specs.Edit.{Field, edit_of}
use Rattle.lsm_manifest.specs.EditReading.{Read, ◌>>=◌, field_at, fields_at, with_edit}
use Rattle.lsm_manifest.specs.EditView.{Fails}
use Rattle.lsm_manifest.specs.DraftView.{with_field}
use Rattle.lsm_manifest.proofs.EditFold.{edit_of-push}

abbrev Fields : Type 0
Fields = Result (List Field) EditFault

-- what was read before, and what is left
pub with_front : List Field → Fields → Fields
with_front front (Ok later) = Ok (front ++ later)
with_front front (Err e) = Err e

pub record Goes (all : Fields) (count i : ℕ) (front : List Field) (rest : List ℕ) : Type 0 where
  pub same : with_front front (fields_at (count - i) rest) ≡ all

stepped : ℕ → ℕ → List Field → Read Field → Fields
stepped count i front r = with_front front (r >>= λ x. fields_at (count - (i + 1)) x.1 >>= λ fs. Ok (x.0 ∷ fs))

step : (all : Fields) (count i : ℕ) (front : List Field) (rest : List ℕ) → i < count → 0 < length rest → Goes all count i front rest → all ≡ stepped count i front (field_at rest)
unfolding fields_at stepped
step all count i front [] lt some g = absurd (omega arith)
step all count i front (b ∷ bs) lt some g =
    let k : count - i ≡ suc (count - (i + 1)) = omega arith in
    sym g.same ∙ ap (λ (n : ℕ). with_front front (fields_at n (b ∷ bs))) k

pub fails : (error : EditFault) (all : Fields) (count i : ℕ) (front : List Field) (rest : List ℕ) → i < count → 0 < length rest → Goes all count i front rest → Fails error (field_at rest) → Fails error (with_edit all)
unfolding stepped with_front
fails OutOfMemory all count i front rest lt some g is = tt
fails (UnknownTag t) all count i front rest lt some g is = ap with_edit (step all count i front rest lt some g ∙ ap (stepped count i front) is)
fails (BadLevel l) all count i front rest lt some g is = ap with_edit (step all count i front rest lt some g ∙ ap (stepped count i front) is)
fails EditCut all count i front rest lt some g is = ap with_edit (step all count i front rest lt some g ∙ ap (stepped count i front) is)
fails BadEditKey all count i front rest lt some g is = ap with_edit (step all count i front rest lt some g ∙ ap (stepped count i front) is)

regroup : (front : List Field) (f : Field) (read : Fields) → with_front front (read >>= λ fs. Ok (f ∷ fs)) ≡ with_front (front ++ f ∷ []) read
unfolding with_front
regroup front f (Ok fs) = ap (λ (x : List Field). Ok x) (sym (append_assoc front (f ∷ []) fs))
regroup front f (Err e) = refl

pub goes_on : (all : Fields) (count i : ℕ) (front : List Field) (rest : List ℕ) (f : Field) (after : List ℕ) → i < count → 0 < length rest → Goes all count i front rest → field_at rest ≡ Ok (f, after)
    → Goes all count (i + 1) (front ++ f ∷ []) after
unfolding stepped
goes_on all count i front rest f after lt some g is =
    record { same = sym (step all count i front rest lt some g ∙ ap (stepped count i front) is ∙ regroup front f (fields_at (count - (i + 1)) after)) }

no_field : (n : ℕ) → fields_at n [] ≡ Ok []
unfolding fields_at
no_field zero = refl
no_field (suc n) = refl

no_front : (read : Fields) → with_front [] read ≡ read
unfolding with_front
no_front (Ok w) = refl
no_front (Err e) = refl

pub ends_empty : (all : Fields) (count i : ℕ) (front : List Field) (rest : List ℕ) → length rest ≡ 0 → Goes all count i front rest → all ≡ Ok front
unfolding with_front
ends_empty all count i front (b ∷ bs) h g = absurd (omega arith)
ends_empty all count i front [] h g = sym g.same ∙ ap (with_front front) (no_field (count - i)) ∙ ap (λ (x : List Field). Ok x) (append-nil front)

pub runs_out : (all : Fields) (count i : ℕ) (front : List Field) (rest : List ℕ) → count ≤ i → Goes all count i front rest → all ≡ Ok front
unfolding with_front fields_at
runs_out all count i front rest le g =
    let k : count - i ≡ 0 = omega arith in
    sym g.same ∙ ap (λ (n : ℕ). with_front front (fields_at n rest)) k ∙ ap (λ (x : List Field). Ok x) (append-nil front)

pub goes_at_first : (text : List ℕ) → Goes (fields_at (length text) text) (length text) 0 [] text
goes_at_first text =
    let k : length text - 0 ≡ length text = omega arith in
    record { same = ap (λ (n : ℕ). with_front [] (fields_at n text)) k ∙ no_front (fields_at (length text) text) }

-- ---- the same with an edit in the place of the fields

pub record Reads (all : Fields) (count i : ℕ) (edit : Edit) (rest : List ℕ) : Type 0 where
  pub front : List Field
  pub edit_is : edit ≡ edit_of front
  pub goes : Goes all count i front rest

pub reads_at_first : (text : List ℕ) (edit : Edit) → edit ≡ edit_of [] → Reads (fields_at (length text) text) (length text) 0 edit text
reads_at_first text edit e = record { front = []; edit_is = e; goes = goes_at_first text }

pub reads_on : (all : Fields) (count i : ℕ) (edit new : Edit) (rest : List ℕ) (f : Field) (after : List ℕ) → i < count → 0 < length rest → Reads all count i edit rest → field_at rest ≡ Ok (f, after) → new ≡ with_field edit f
    → Reads all count (i + 1) new after
reads_on all count i edit new rest f after lt some r is e =
    record { front = r.front ++ f ∷ []; edit_is = e ∙ ap (λ (x : Edit). with_field x f) r.edit_is ∙ sym (edit_of-push r.front f); goes = goes_on all count i r.front rest f after lt some r.goes is }

pub reads_fail : (error : EditFault) (all : Fields) (count i : ℕ) (edit : Edit) (rest : List ℕ) → i < count → 0 < length rest → Reads all count i edit rest → Fails error (field_at rest) → Fails error (with_edit all)
reads_fail error all count i edit rest lt some r is = fails error all count i r.front rest lt some r.goes is

pub reads_end : (all : Fields) (count i : ℕ) (edit : Edit) (rest : List ℕ) → length rest ≡ 0 → Reads all count i edit rest → with_edit all ≡ Ok edit
reads_end all count i edit rest h r = ap with_edit (ends_empty all count i r.front rest h r.goes) ∙ ap (λ (x : Edit). Ok x) (sym r.edit_is)

pub reads_out : (all : Fields) (count i : ℕ) (edit : Edit) (rest : List ℕ) → count ≤ i → Reads all count i edit rest → with_edit all ≡ Ok edit
reads_out all count i edit rest le r = ap with_edit (runs_out all count i r.front rest le r.goes) ∙ ap (λ (x : Edit). Ok x) (sym r.edit_is)
