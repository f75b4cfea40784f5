-- Reading parts and records one after the other, as loops do.
use Rattle.std.proofs.Common.{◌≡◌, ℕ, suc, ◌+◌, ◌-◌, ◌<◌, ◌≤◌, Bool, true, false, List, [], ◌∷◌, ◌++◌, length, Some, None, Result, Ok, Err, refl, sym, ap, ◌∙◌, append_assoc, arith}
use Rattle.std.proofs.lemmas.List.{append-nil}
use Rattle.std.proofs.lemmas.Bool.{eq-eqb, ne_eqb}
use Rattle.lsm_manifest.specs.declared.log_fault.LogFault.{LogFault}
use Rattle.lsm_manifest.specs.declared.log_fault.LogFault.TheVariants.{OutOfMemory, LogChecksum, LogOrder, LogType}
use Rattle.lsm_manifest.specs.Log.{may_follow, ends}
use Rattle.lsm_manifest.specs.declared.fragment.FragmentType.{FragmentType}
use Rattle.lsm_manifest.specs.declared.fragment.FragmentType.TheVariants.{Full, First, Middle, Last}
use Rattle.lsm_manifest.specs.LogView.{Fails, type_byte}
use Rattle.lsm_manifest.specs.LogReading.{LogPart, Next, Whole, on_found, on_next, with_records, found_at, record_at, records_at}

-- ---- the parts of a record

abbrev got : LogPart → Result LogPart LogFault
got f = Ok f

-- What is left to read gives what reading gives from the start.
pub record Goes (all : Result Next LogFault) (count i total : ℕ) (begun : Bool) (before rest : List ℕ) : Type 0 where
  pub same : record_at (count - i) total begun before rest ≡ all
  pub shorter : length rest ≤ count

abbrev stepped : ℕ → ℕ → ℕ → Bool → List ℕ → List ℕ → Result LogPart LogFault → Result Next LogFault
stepped count i total begun before rest f = on_found (total - length rest) begun before (record_at (count - (i + 1)) total) f

step : (all : Result Next LogFault) (count i total : ℕ) (begun : Bool) (before rest : List ℕ) → i < count → Goes all count i total begun before rest
    → all ≡ stepped count i total begun before rest (found_at (total - length rest) begun rest)
unfolding record_at
step all count i total begun before rest lt g =
    let k : count - i ≡ suc (count - (i + 1)) = omega arith in
    sym g.same ∙ ap (λ (n : ℕ). record_at n total begun before rest) k

pub stops : (all : Result Next LogFault) (count i total : ℕ) (begun : Bool) (before rest : List ℕ) → i < count → Goes all count i total begun before rest
    → got None ≡ found_at (total - length rest) begun rest → all ≡ Ok None
stops all count i total begun before rest lt g is =
    step all count i total begun before rest lt g ∙ ap (stepped count i total begun before rest) (sym is)

pub fails : (error : LogFault) (all : Result Next LogFault) (count i total : ℕ) (begun : Bool) (before rest : List ℕ) → i < count → Goes all count i total begun before rest
    → Fails error (found_at (total - length rest) begun rest) → Fails error all
fails OutOfMemory all count i total begun before rest lt g is = tt
fails (LogChecksum o) all count i total begun before rest lt g is = step all count i total begun before rest lt g ∙ ap (stepped count i total begun before rest) is
fails (LogOrder o) all count i total begun before rest lt g is = step all count i total begun before rest lt g ∙ ap (stepped count i total begun before rest) is
fails (LogType o) all count i total begun before rest lt g is = step all count i total begun before rest lt g ∙ ap (stepped count i total begun before rest) is

pub skips : (all : Result Next LogFault) (count i total : ℕ) (begun : Bool) (before rest : List ℕ) (kind : ℕ) (piece after : List ℕ) → i < count → Goes all count i total begun before rest
    → got (Some (kind, piece, after)) ≡ found_at (total - length rest) begun rest → kind ≡ 0 → length after ≤ length rest → Goes all count (i + 1) total begun before after
skips all count i total begun before rest kind piece after lt g is zero_kind short =
    let k = eq-eqb kind 0 zero_kind in
    let next : all ≡ record_at (count - (i + 1)) total begun before after =
    step all count i total begun before rest lt g ∙ ap (stepped count i total begun before rest) (sym is) ∙ rw k refl in
    record { same = sym next; shorter = omega (arith, g.shorter) }

pub misplaced : (all : Result Next LogFault) (count i total : ℕ) (begun : Bool) (before rest : List ℕ) (kind : ℕ) (piece after : List ℕ) → i < count → Goes all count i total begun before rest
    → got (Some (kind, piece, after)) ≡ found_at (total - length rest) begun rest → (kind ≡ 0 → ⊥) → may_follow begun before kind ≡ false → all ≡ Err (LogOrder (total - length rest))
misplaced all count i total begun before rest kind piece after lt g is some never =
    let k = ne_eqb kind 0 some in
    step all count i total begun before rest lt g ∙ ap (stepped count i total begun before rest) (sym is) ∙ rw (k, never) refl

pub finishes : (all : Result Next LogFault) (count i total : ℕ) (begun : Bool) (before rest : List ℕ) (kind : ℕ) (piece after : List ℕ) → i < count → Goes all count i total begun before rest
    → got (Some (kind, piece, after)) ≡ found_at (total - length rest) begun rest → (kind ≡ 0 → ⊥) → may_follow begun before kind ≡ true → ends kind ≡ true → all ≡ Ok (Some (before ++ piece, after))
finishes all count i total begun before rest kind piece after lt g is some follows last =
    let k = ne_eqb kind 0 some in
    step all count i total begun before rest lt g ∙ ap (stepped count i total begun before rest) (sym is) ∙ rw (k, follows, last) refl

pub goes_on : (all : Result Next LogFault) (count i total : ℕ) (begun : Bool) (before rest : List ℕ) (kind : ℕ) (piece after : List ℕ) → i < count → Goes all count i total begun before rest
    → got (Some (kind, piece, after)) ≡ found_at (total - length rest) begun rest → (kind ≡ 0 → ⊥) → may_follow begun before kind ≡ true → ends kind ≡ false → length after ≤ length rest
    → Goes all count (i + 1) total true (before ++ piece) after
goes_on all count i total begun before rest kind piece after lt g is some follows more short =
    let k = ne_eqb kind 0 some in
    let next : all ≡ record_at (count - (i + 1)) total true (before ++ piece) after =
    step all count i total begun before rest lt g ∙ ap (stepped count i total begun before rest) (sym is) ∙ rw (k, follows, more) refl in
    record { same = sym next; shorter = omega (arith, g.shorter) }

pub runs_out : (all : Result Next LogFault) (count i total : ℕ) (begun : Bool) (before rest : List ℕ) → count ≤ i → Goes all count i total begun before rest → all ≡ Ok None
unfolding record_at
runs_out all count i total begun before rest le g =
    let k : count - i ≡ 0 = omega arith in
    sym g.same ∙ ap (λ (n : ℕ). record_at n total begun before rest) k

pub goes_at_first : (total : ℕ) (text : List ℕ) → Goes (record_at (length text) total false [] text) (length text) 0 total false [] text
goes_at_first total text =
    let k : length text - 0 ≡ length text = omega arith in
    record { same = ap (λ (n : ℕ). record_at n total false [] text) k; shorter = omega arith }

-- ---- the records of a log

abbrev next : Next → Result Next LogFault
next r = Ok r

pub record GoesOver (all : Result Whole LogFault) (count i total : ℕ) (records : List (List ℕ)) (rest : List ℕ) : Type 0 where
  pub same : with_records records (records_at (count - i) total rest) ≡ all
  pub shorter : length rest ≤ total

over : ℕ → ℕ → ℕ → List (List ℕ) → List ℕ → Result Next LogFault → Result Whole LogFault
over count i total records rest r = with_records records (on_next rest (records_at (count - (i + 1)) total) r)

step_over : (all : Result Whole LogFault) (count i total : ℕ) (records : List (List ℕ)) (rest : List ℕ) → i < count → GoesOver all count i total records rest
    → all ≡ over count i total records rest (record_at (length rest) total false [] rest)
unfolding records_at over
step_over all count i total records rest lt g =
    let k : count - i ≡ suc (count - (i + 1)) = omega arith in
    sym g.same ∙ ap (λ (n : ℕ). with_records records (records_at n total rest)) k

alone : (records : List (List ℕ)) (rest : ℕ) → with_records records (Ok ([], rest)) ≡ Ok (records, rest)
alone records rest = let a = append-nil records in rw a refl

pub stops_over : (all : Result Whole LogFault) (count i total : ℕ) (records : List (List ℕ)) (rest : List ℕ) → i < count → GoesOver all count i total records rest
    → next None ≡ record_at (length rest) total false [] rest → all ≡ Ok (records, length rest)
unfolding over
stops_over all count i total records rest lt g is =
    step_over all count i total records rest lt g ∙ ap (over count i total records rest) (sym is) ∙ alone records (length rest)

pub fails_over : (error : LogFault) (all : Result Whole LogFault) (count i total : ℕ) (records : List (List ℕ)) (rest : List ℕ) → i < count → GoesOver all count i total records rest
    → Fails error (record_at (length rest) total false [] rest) → Fails error all
unfolding over
fails_over OutOfMemory all count i total records rest lt g is = tt
fails_over (LogChecksum o) all count i total records rest lt g is = step_over all count i total records rest lt g ∙ ap (over count i total records rest) is
fails_over (LogOrder o) all count i total records rest lt g is = step_over all count i total records rest lt g ∙ ap (over count i total records rest) is
fails_over (LogType o) all count i total records rest lt g is = step_over all count i total records rest lt g ∙ ap (over count i total records rest) is

regroup : (front : List (List ℕ)) (r : List ℕ) (read : Result Whole LogFault) → with_records front (with_records (r ∷ []) read) ≡ with_records (front ++ r ∷ []) read
regroup front r (Ok w) = let a = append_assoc front (r ∷ []) w.0 in rw a refl
regroup front r (Err e) = refl

pub goes_over : (all : Result Whole LogFault) (count i total : ℕ) (records : List (List ℕ)) (rest r after : List ℕ) → i < count → GoesOver all count i total records rest
    → next (Some (r, after)) ≡ record_at (length rest) total false [] rest → length after ≤ length rest → GoesOver all count (i + 1) total (records ++ r ∷ []) after
unfolding over
goes_over all count i total records rest r after lt g is short =
    let one = step_over all count i total records rest lt g ∙ ap (over count i total records rest) (sym is) ∙ regroup records r (records_at (count - (i + 1)) total after) in
    record { same = sym one; shorter = omega (arith, g.shorter) }

pub runs_out_over : (all : Result Whole LogFault) (count i total : ℕ) (records : List (List ℕ)) (rest : List ℕ) → count ≤ i → GoesOver all count i total records rest → all ≡ Ok (records, length rest)
unfolding records_at
runs_out_over all count i total records rest le g =
    let k : count - i ≡ 0 = omega arith in
    sym g.same ∙ ap (λ (n : ℕ). with_records records (records_at n total rest)) k ∙ alone records (length rest)

-- a fragment's type is no zero
pub some_type : (kind : FragmentType) → type_byte kind ≡ 0 → ⊥
some_type Full e = absurd (omega arith)
some_type First e = absurd (omega arith)
some_type Middle e = absurd (omega arith)
some_type Last e = absurd (omega arith)
