-- The manifest that a new one replaces, read in front of its first fault.
use Rattle.std.proofs.Common.{◌≡◌, ℕ, zero, suc, ◌+◌, ◌<◌, ◌≤◌, List, [], ◌∷◌, ◌++◌, length}
use Rattle.std.proofs.Common.{get_or, take, drop, drop-cons, Option, None, Some, refl, sym, ap}
use Rattle.std.proofs.Common.{◌∙◌, subst, inl, inr, arith}
use Rattle.std.specs.Prelude.{◌⊎◌, Err, IfErr, IfOk, MatchOption, Ok, OnOk, Result}
use Rattle.std.specs.Option.{option_or}
use Rattle.std.proofs.lemmas.List.{append-nil, append_assoc, take_all, take_more}
use Rattle.lsm_codec.specs.Lists.{Has}
use Rattle.lsm_codec.proofs.CallerLemmas.{has_cases}
use Rattle.lsm_manifest.specs.EditFit.{Change}
use Rattle.lsm_manifest.specs.EditReading.{edit_at}
use Rattle.lsm_manifest.specs.Last.{last_by}
use Rattle.lsm_manifest.specs.LogReading.{Whole, log_at}
use Rattle.lsm_manifest.specs.Replay.{NamesOther}
use Rattle.lsm_manifest.proofs.CallerLemmas.{last_by-push}
use Rattle.lsm_manifest.specs.declared.edit_fault.EditFault.{EditFault}
use Rattle.lsm_manifest.specs.declared.log_fault.LogFault.{LogFault}
use Rattle.lsm_shelf.specs.Asked.{Asked}
use Rattle.lsm_shelf.specs.Told.{Becomes, Told, finding}
use Rattle.lsm_shelf.specs.declared.shelf_fault.ShelfFault.{ShelfFault}
use Rattle.lsm_repair.specs.OldManifest.{IsNotOld, IsOld, NamesAnother, edits_by, edits_in}
use Rattle.lsm_repair.specs.OldManifest.{first_edits, first_records, front_by, logs_in, records_by}
use Rattle.lsm_repair.specs.declared.mend_fault.MendFault.{MendFault}
use Rattle.lsm_repair.specs.declared.mend_fault.MendFault.TheVariants.{OtherComparator}
use Rattle.lsm_repair.specs.declared.mend_fault.MendFault.TheVariants.{OutOfMemory}
use Rattle.lsm_repair.specs.declared.old_logs.OldLogs.{OldLogs}

-- ---- records

pub records_all : (bytes : List ℕ) (whole : Whole) → log_at bytes ≡ Ok whole
    → whole.0 ≡ first_records bytes
records_all bytes whole is =
    sym (ap (λ (r : Result Whole LogFault). records_by (log_at (front_by r bytes))) is
    ∙ ap records_by is)

-- ---- edits

-- the records from this one on
rest_from : (records : List (List ℕ)) (i : ℕ) (one : List ℕ) → i < length records
    → one ≡ get_or records i one → drop i records ≡ one ∷ drop (i + 1) records
rest_from records i one lt is =
    let s : i + 1 ≡ suc i = omega arith in
    rw s (drop-cons records i one lt ∙ ap (λ (x : List ℕ). x ∷ drop (suc i) records) (sym is))

pub edits_none : (records : List (List ℕ))
    → [] ++ first_edits (drop 0 records) ≡ first_edits records
edits_none records = refl

-- the next one is an edit
pub edits_more : (records : List (List ℕ)) (i : ℕ) (one : List ℕ) (edits more : List Change)
    (edit : Change) → i < length records → one ≡ get_or records i one → edit_at one ≡ Ok edit
    → more ≡ edits ++ edit ∷ [] → edits ++ first_edits (drop i records) ≡ first_edits records
    → more ++ first_edits (drop (i + 1) records) ≡ first_edits records
edits_more records i one edits more edit lt is reads pushed before =
    let later = first_edits (drop (i + 1) records) in
    let next : first_edits (drop i records) ≡ edit ∷ later =
    ap first_edits (rest_from records i one lt is)
    ∙ ap (λ (r : Result Change EditFault). edits_by r later) reads in
    ap (λ (es : List Change). es ++ later) pushed ∙ append_assoc edits (edit ∷ []) later
    ∙ ap (λ (es : List Change). edits ++ es) (sym next) ∙ before

-- it is none
pub edits_stop : (records : List (List ℕ)) (i : ℕ) (one : List ℕ) (edits : List Change)
    (fault : EditFault) → i < length records → one ≡ get_or records i one
    → edit_at one ≡ Err fault → edits ++ first_edits (drop i records) ≡ first_edits records
    → edits ≡ first_edits records
edits_stop records i one edits fault lt is reads before =
    let later = first_edits (drop (i + 1) records) in
    let next : first_edits (drop i records) ≡ [] =
    ap first_edits (rest_from records i one lt is)
    ∙ ap (λ (r : Result Change EditFault). edits_by r later) reads in
    sym (append-nil edits) ∙ ap (λ (es : List Change). edits ++ es) (sym next) ∙ before

drop_all : {X : Type 0} (xs : List X) (i : ℕ) → length xs ≤ i → drop i xs ≡ []
drop_all [] zero done = refl
drop_all [] (suc i) done = refl
drop_all (x ∷ xs) zero done = absurd (omega (arith, done))
drop_all (x ∷ xs) (suc i) done = drop_all xs i (omega (arith, done))

-- there is no next one
pub edits_end : (records : List (List ℕ)) (i : ℕ) (edits : List Change) → length records ≤ i
    → edits ++ first_edits (drop i records) ≡ first_edits records → edits ≡ first_edits records
edits_end records i edits done before =
    sym (append-nil edits)
    ∙ ap (λ (rs : List (List ℕ)). edits ++ first_edits rs) (sym (drop_all records i done))
    ∙ before

pub read_as : (found : Option Change) (own : List ℕ) (edit : Change) → found ≡ Some edit
    → MatchOption found ((fault : EditFault) × (edit_at own ≡ Err fault)) (λ e. edit_at own ≡ Ok e)
    → edit_at own ≡ Ok edit
read_as found own edit is reads =
    subst (λ (o : Option Change). MatchOption o ((fault : EditFault) × (edit_at own ≡ Err fault))
    (λ e. edit_at own ≡ Ok e)) is reads

pub read_none : (found : Option Change) (own : List ℕ) → ((edit : Change) → found ≡ Some edit → ⊥)
    → MatchOption found ((fault : EditFault) × (edit_at own ≡ Err fault)) (λ e. edit_at own ≡ Ok e)
    → (fault : EditFault) × (edit_at own ≡ Err fault)
read_none None own other reads = reads
read_none (Some edit) own other reads = absurd (other edit refl)

-- ---- comparators

has_at : {X : Type 0} (xs : List X) (i : ℕ) (x : X) → i < length xs → x ≡ get_or xs i x → Has xs x
has_at [] i x lt is = absurd (omega (arith, lt))
has_at (y ∷ xs) zero x lt is = inl (sym is)
has_at (y ∷ xs) (suc i) x lt is = inr (has_at xs i x (omega (arith, lt)) is)

pub names_here : (edits : List Change) (i : ℕ) (edit : Change) → i < length edits
    → edit ≡ get_or edits i edit → NamesOther edit → NamesAnother edits
names_here edits i edit lt is other = (edit, has_at edits i edit lt is, other)

other_in : (front : List Change) (edit e : Change) → (NamesAnother front → ⊥)
    → (NamesOther edit → ⊥) → Has front e ⊎ Has (edit ∷ []) e → NamesOther e → ⊥
other_in front edit e none this (inl has) other = none (e, has, other)
other_in front edit e none this (inr (inl same)) other = this (subst NamesOther (sym same) other)
other_in front edit e none this (inr (inr nothing)) other = absurd nothing

pub names_more : (edits : List Change) (i : ℕ) (edit : Change) → i < length edits
    → edit ≡ get_or edits i edit → (NamesAnother (take i edits) → ⊥) → (NamesOther edit → ⊥)
    → NamesAnother (take (i + 1) edits) → ⊥
names_more edits i edit lt is none this (e, has, other) =
    let front = take i edits in
    let next : take (i + 1) edits ≡ front ++ edit ∷ [] =
    take_more edits i edit lt ∙ ap (λ (x : Change). front ++ x ∷ []) (sym is) in
    other_in front edit e none this
    (has_cases front (edit ∷ []) e (subst (λ (es : List Change). Has es e) next has)) other

pub names_end : (edits : List Change) (i : ℕ) → length edits ≤ i
    → (NamesAnother (take i edits) → ⊥) → NamesAnother edits → ⊥
names_end edits i done none (e, has, other) =
    none (e, subst (λ (es : List Change). Has es e) (sym (take_all i edits done)) has, other)

-- ---- numbers

pub last_next : {X A : Type 0} (pick : X → Option A) (xs : List X) (i : ℕ) (x : X)
    → i < length xs → x ≡ get_or xs i x
    → last_by pick (take (i + 1) xs) ≡ option_or (pick x) (last_by pick (take i xs))
last_next pick xs i x lt is =
    ap (last_by pick) (take_more xs i x lt ∙ ap (λ (y : _). take i xs ++ y ∷ []) (sym is))
    ∙ last_by-push pick (take i xs) x

-- ---- a shelf

pub old_from : (Denied : Asked → ShelfFault → Type 0) (r : Result OldLogs MendFault) (number : ℕ)
    (bytes given : List ℕ) (was is : Told) → given ≡ bytes → Becomes (finding number bytes was) is
    → IfOk r (λ l. l ≡ logs_in number given) → OnOk r (NamesAnother (edits_in given) → ⊥)
    → IfOk r (λ l. IsOld Denied l was is)
old_from Denied (Ok l) number bytes given was is same told says bytewise = record {
  found = Some (number, bytes);
  given = told;
  bytewise = subst (λ (b : List ℕ). NamesAnother (edits_in b) → ⊥) same bytewise;
  says = says ∙ ap (logs_in number) same;
}
old_from Denied (Err e) number bytes given was is same told says bytewise = tt

pub not_old_from : (Denied : Asked → ShelfFault → Type 0) (r : Result OldLogs MendFault)
    (number : ℕ) (bytes given : List ℕ) (was is : Told) → given ≡ bytes
    → Becomes (finding number bytes was) is
    → IfErr r (λ e. (e ≡ OutOfMemory) ⊎ ((e ≡ OtherComparator) × NamesAnother (edits_in given)))
    → IfErr r (λ e. IsNotOld Denied e was is)
not_old_from Denied (Ok l) number bytes given was is same told why = tt
not_old_from Denied (Err e) number bytes given was is same told (inl memory) = inl memory
not_old_from Denied (Err e) number bytes given was is same told (inr (other, names)) =
    inr (inr (
      number,
      bytes,
      told,
      subst (λ (b : List ℕ). NamesAnother (edits_in b)) same names,
      other,
    ))
