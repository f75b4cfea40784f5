-- What is read as records is spelled so, and what is spelled so is read.
use Rattle.std.proofs.Common.{◌≡◌, ℕ, zero, suc, ◌+◌, ◌-◌, ◌<◌, ◌≤◌, ◌⊎◌, Bool, true, false, cond, List, [], ◌∷◌, ◌++◌, length, get_or, drop, Some, None, Result, Ok, Err, refl, sym, ap, ◌∙◌, subst, append_assoc, arith, inl, inr}
use Rattle.std.proofs.lemmas.Bool.{cases_lt, eq-eqb, ne_eqb}
use Rattle.std.proofs.lemmas.List.{drop_at, length-append, get_or-drop, append-nil}
use Rattle.lsm_codec.proofs.CallerLemmas.{IsBytes}
use Rattle.lsm_manifest.specs.declared.log_fault.LogFault.{LogFault}
use Rattle.lsm_manifest.specs.declared.log_fault.LogFault.TheVariants.{LogOrder}
use Rattle.lsm_manifest.specs.Log.{fragment, may_follow, ends, IsPiece, IsFiller, IsEnd, Skips, Adds, Part, Row, IsLast, IsRecord, HoldsNone, LogFrom, IsLog}
use Rattle.lsm_manifest.specs.LogReading.{LogPart, Next, Whole, on_found, placed, on_next, with_records, found_at, record_at, records_at, log_at}
use Rattle.lsm_manifest.proofs.FragmentLaws.{Skipped, Pieced, found_takes, piece_again, skip_again, end_again, kind_fits, length-fragment}

pub IsBytes-after : (bytes front rest : List ℕ) → bytes ≡ front ++ rest → IsBytes bytes → IsBytes rest
IsBytes-after bytes front rest e fits i =
    let d : drop (length front) bytes ≡ rest = ap (drop (length front)) e ∙ drop_at front rest (length front) refl in
    let f : get_or (drop (length front) bytes) i 0 < 256 = rw get_or-drop (fits (length front + i)) in
    rw d at f

-- ---- what is read is spelled

-- a record at the front, or none to the end
abbrev pub NextIs : ℕ → Bool → List ℕ → List ℕ → Next → Type 0
NextIs offset begun before text None = (n : ℕ) × Row n IsEnd offset begun before text
NextIs offset begun before text (Some x) = (own : List ℕ) × (text ≡ own ++ x.1) × (n : ℕ) × Row n (IsLast x.0) offset begun before own

part_then : (offset : ℕ) (begun : Bool) (before text : List ℕ) (p : Part offset begun before text) (r : Next)
    → NextIs (offset + length p.own) p.begun_after p.after p.later r → NextIs offset begun before text r
part_then offset begun before text p None (n, row) = (suc n, (p, row))
part_then offset begun before text p (Some x) (own, is, n, row) =
    let q : Part offset begun before (p.own ++ own) = record { own = p.own; later = own; begun_after = p.begun_after; after = p.after; text_is = refl; passes = p.passes } in
    (p.own ++ own, p.text_is ∙ ap (λ (y : List ℕ). p.own ++ y) is ∙ sym (append_assoc p.own own x.1), suc n, (q, row))

abbrev next : Next → Result Next LogFault
next r = Ok r

next_is : (r s : Next) → next r ≡ next s → r ≡ s
next_is r s e = cc

if_next : (b : Bool) (x y : Result Next LogFault) (r : Next) → cond b x y ≡ Ok r → ((b ≡ true) × (x ≡ Ok r)) ⊎ ((b ≡ false) × (y ≡ Ok r))
if_next true x y r e = inl (refl, e)
if_next false x y r e = inr (refl, e)

-- what the reading of what follows a part says
abbrev Later : ℕ → ℕ → Type 0
Later count total = (begun : Bool) (before text : List ℕ) (r : Next) → length text ≤ count → length text ≤ total → IsBytes text
    → record_at count total begun before text ≡ Ok r → NextIs (total - length text) begun before text r

on_skipped : (count total : ℕ) (begun : Bool) (before text rest : List ℕ) (r : Next) → Later count total → length text ≤ suc count → length text ≤ total → IsBytes text
    → Skipped (total - length text) begun text rest → record_at count total begun before rest ≡ Ok r → NextIs (total - length text) begun before text r
on_skipped count total begun before text rest r later fuel within fits s e =
    let len : length text ≡ length s.own + length rest = ap length s.text_is ∙ length-append s.own rest in
    let some : 0 < length s.own = omega (arith, s.whole) in
    let more = later begun before rest r (omega arith) (omega arith) (IsBytes-after text s.own rest s.text_is fits) e in
    let place : total - length rest ≡ (total - length text) + length s.own = omega arith in
    let p : Part (total - length text) begun before text = record {
      own = s.own;
      later = rest;
      begun_after = begun;
      after = before;
      text_is = s.text_is;
      passes = inl record { whole = s.whole; why = s.why; begun_is = refl; body_is = refl };
    } in
    part_then (total - length text) begun before text p r (subst (λ (o : ℕ). NextIs o begun before rest r) place more)

on_pieced : (count total : ℕ) (begun : Bool) (before text : List ℕ) (kind : ℕ) (body rest : List ℕ) (r : Next) → Later count total → length text ≤ suc count → length text ≤ total → IsBytes text
    → Pieced (total - length text) text kind body rest → placed (total - length text) begun before kind body rest (record_at count total true (before ++ body) rest) ≡ Ok r
    → NextIs (total - length text) begun before text r
on_pieced count total begun before text kind body rest r later fuel within fits s e =
    let more = record_at count total true (before ++ body) rest in
    let own = fragment kind body in
    let own_len = length-fragment kind body in
    let len : length text ≡ length own + length rest = ap length s.text_is ∙ length-append own rest in
    elim (if_next (may_follow begun before kind) (cond (ends kind) (next (Some (before ++ body, rest))) more) (Err (LogOrder (total - length text))) r e) [
      | inr wrong ↦ absurd (let bad = wrong.1 in cc)
      | inl follows ↦
          let piece : IsPiece (total - length text) begun before kind body own = record { own_is = refl; fits = s.fits; follows = follows.0 } in
          elim (if_next (ends kind) (next (Some (before ++ body, rest))) more r follows.1) [
            | inl last ↦
                let is : IsLast (before ++ body) (total - length text) begun before own = record { kind = kind; body = body; piece = piece; ends_it = last.0; whole_is = refl } in
                subst (NextIs (total - length text) begun before text) (next_is (Some (before ++ body, rest)) r last.1) (own, s.text_is, 0, is)
            | inr goes ↦
                let tail = later true (before ++ body) rest r (omega (arith, own_len)) (omega (arith, own_len)) (IsBytes-after text own rest s.text_is fits) goes.1 in
                let place : total - length rest ≡ (total - length text) + length own = omega arith in
                let p : Part (total - length text) begun before text = record {
                  own = own;
                  later = rest;
                  begun_after = true;
                  after = before ++ body;
                  text_is = s.text_is;
                  passes = inr record { kind = kind; body = body; piece = piece; goes_on = goes.0; begun_is = refl; body_is = refl };
                } in
                part_then (total - length text) begun before text p r (subst (λ (o : ℕ). NextIs o true (before ++ body) rest r) place tail)
          ]
    ]

on_found_takes : (count total : ℕ) (begun : Bool) (before text : List ℕ) (r : Next) → Later count total → length text ≤ suc count → length text ≤ total → IsBytes text
    → (f : Result LogPart LogFault) → found_at (total - length text) begun text ≡ f → on_found (total - length text) begun before (record_at count total) f ≡ Ok r
    → NextIs (total - length text) begun before text r
on_found_takes count total begun before text r later fuel within fits (Err d) is e = absurd cc
on_found_takes count total begun before text r later fuel within fits (Ok None) is e =
    subst (NextIs (total - length text) begun before text) (next_is None r e) (0, found_takes (total - length text) begun text None fits is)
on_found_takes count total begun before text r later fuel within fits (Ok (Some x)) is e =
    elim (found_takes (total - length text) begun text (Some x) fits is) [
      | inl skipped ↦
          let k = eq-eqb x.0 0 skipped.0 in
          let rest = rw k at e in
          on_skipped count total begun before text x.2 r later fuel within fits skipped.1 rest
      | inr pieced ↦
          let k = ne_eqb x.0 0 pieced.0 in
          let rest = rw k at e in
          on_pieced count total begun before text x.0 x.1 x.2 r later fuel within fits pieced.1 rest
    ]

pub record_takes : (count total : ℕ) → Later count total
unfolding record_at
record_takes zero total begun before text r fuel within fits e =
    subst (NextIs (total - length text) begun before text) (next_is None r e) (0, inl (omega arith))
record_takes (suc count) total begun before text r fuel within fits e =
    on_found_takes count total begun before text r (record_takes count total) fuel within fits (found_at (total - length text) begun text) refl e

-- ---- what is spelled is read

row_long : (n : ℕ) (w : List ℕ) (offset : ℕ) (begun : Bool) (before text : List ℕ) → Row n (IsLast w) offset begun before text → 7 ≤ length text
row_long zero w offset begun before text l = omega (arith, ap length l.piece.own_is, length-fragment l.kind l.body)
row_long (suc n) w offset begun before text (p, row) = omega (arith, ap length p.text_is, length-append p.own p.later, row_long n w (offset + length p.own) p.begun_after p.after p.later row)

pub own_some : (offset : ℕ) (begun : Bool) (before text : List ℕ) (p : Part offset begun before text) → 0 < length p.own
own_some offset begun before text p = elim p.passes [
  | inl s ↦ omega (arith, s.whole)
  | inr a ↦ omega (arith, ap length a.piece.own_is, length-fragment a.kind a.body)
]

abbrev on : ℕ → ℕ → ℕ → Bool → List ℕ → Result LogPart LogFault → Result Next LogFault
on offset count total begun before f = on_found offset begun before (record_at count total) f

-- one part more
skip_part_again : (count total offset : ℕ) (begun : Bool) (before own later : List ℕ) (begun_after : Bool) (after : List ℕ) → Skips offset begun before own begun_after after
    → offset ≡ total - length (own ++ later) → 7 ≤ length (own ++ later) → 0 < length later → record_at (suc count) total begun before (own ++ later) ≡ record_at count total begun_after after later
unfolding record_at
skip_part_again count total offset begun before own later begun_after after s place long more =
    let f : found_at offset begun (own ++ later) ≡ Ok (Some (0, [], later)) = skip_again offset begun own later long s.whole more s.why in
    let g = rw place at f in
    let b = s.begun_is in
    let d = s.body_is in
    rw (b, d) (ap (on (total - length (own ++ later)) count total begun before) g)

add_part_again : (count total offset : ℕ) (begun : Bool) (before own later : List ℕ) (begun_after : Bool) (after : List ℕ) → Adds offset begun before own begun_after after
    → offset ≡ total - length (own ++ later) → record_at (suc count) total begun before (own ++ later) ≡ record_at count total begun_after after later
unfolding record_at
add_part_again count total offset begun before own later begun_after after a place =
    let f : found_at offset begun (own ++ later) ≡ Ok (Some (a.kind, a.body, later)) = piece_again offset begun begun before a.kind a.body own later a.piece in
    let g = rw place at f in
    let b = a.begun_is in
    let d = a.body_is in
    let k = (kind_fits begun before a.kind a.piece.follows).0 in
    let follows = a.piece.follows in
    let goes = a.goes_on in
    rw (b, d) (ap (on (total - length (own ++ later)) count total begun before) g ∙ rw (k, follows, goes) refl)

part_again : (count total offset : ℕ) (begun : Bool) (before text : List ℕ) (p : Part offset begun before text) (rest : List ℕ) → offset ≡ total - length (p.own ++ (p.later ++ rest)) → 7 ≤ length (p.own ++ (p.later ++ rest)) → 0 < length (p.later ++ rest)
    → record_at (suc count) total begun before (p.own ++ (p.later ++ rest)) ≡ record_at count total p.begun_after p.after (p.later ++ rest)
part_again count total offset begun before text p rest place long more = elim p.passes [
  | inl s ↦ skip_part_again count total offset begun before p.own (p.later ++ rest) p.begun_after p.after s place long more
  | inr a ↦ add_part_again count total offset begun before p.own (p.later ++ rest) p.begun_after p.after a place
]

pub record_again : (n count total offset : ℕ) (begun : Bool) (before own rest w : List ℕ) → Row n (IsLast w) offset begun before own → length (own ++ rest) ≤ count → length (own ++ rest) ≤ total
    → offset ≡ total - length (own ++ rest) → record_at count total begun before (own ++ rest) ≡ Ok (Some (w, rest))
unfolding record_at
record_again n zero total offset begun before own rest w row fuel within place = absurd (omega (arith, row_long n w offset begun before own row, length-append own rest))
record_again zero (suc count) total offset begun before own rest w l fuel within place =
    let f : found_at offset begun (own ++ rest) ≡ Ok (Some (l.kind, l.body, rest)) = piece_again offset begun begun before l.kind l.body own rest l.piece in
    let g = rw place at f in
    let k = (kind_fits begun before l.kind l.piece.follows).0 in
    let follows = l.piece.follows in
    let last = l.ends_it in
    let whole = l.whole_is in
    ap (on (total - length (own ++ rest)) count total begun before) g ∙ rw (k, follows, last, whole) refl
record_again (suc n) (suc count) total offset begun before own rest w (p, row) fuel within place =
    let same : own ++ rest ≡ p.own ++ (p.later ++ rest) = ap (λ (x : List ℕ). x ++ rest) p.text_is ∙ append_assoc p.own p.later rest in
    let len : length (p.own ++ (p.later ++ rest)) ≡ length p.own + length (p.later ++ rest) = length-append p.own (p.later ++ rest) in
    let some = own_some offset begun before own p in
    let long : 7 ≤ length (p.later ++ rest) = omega (arith, length-append p.later rest, row_long n w (offset + length p.own) p.begun_after p.after p.later row) in
    let same_len = ap length same in
    let ih = record_again n count total (offset + length p.own) p.begun_after p.after p.later rest w row (omega arith) (omega arith) (omega arith) in
    ap (record_at (suc count) total begun before) same ∙ part_again count total offset begun before own p rest (omega arith) (omega arith) (omega arith) ∙ ih

end_stops : (count total offset : ℕ) (begun : Bool) (before text : List ℕ) → IsEnd offset begun before text → offset ≡ total - length text → record_at count total begun before text ≡ Ok None
unfolding record_at
end_stops zero total offset begun before text is place = refl
end_stops (suc count) total offset begun before text is place =
    let f = end_again offset begun before text is in
    let g = rw place at f in
    ap (on (total - length text) count total begun before) g

-- A part to the end of the file is an end.
part_ends : (offset : ℕ) (begun : Bool) (before text : List ℕ) (p : Part offset begun before text) → length p.later ≡ 0 → Skips offset begun before p.own p.begun_after p.after → IsEnd offset begun before text
part_ends offset begun before text p none s =
    let same : text ≡ p.own = p.text_is ∙ ap (λ (x : List ℕ). p.own ++ x) (nothing p.later none) ∙ append-nil p.own in
    let len = ap length same in
    elim s.why [
      | inl small ↦ inl (omega (arith, s.whole))
      | inr filler ↦ inr (omega (arith, s.whole), inr (subst (λ (x : List ℕ). IsFiller begun x) (sym same) filler))
    ]
  where
    nothing : (xs : List ℕ) → length xs ≡ 0 → xs ≡ []
    nothing [] e = refl
    nothing (x ∷ xs) e = absurd (omega arith)

pub none_again : (n count total offset : ℕ) (begun : Bool) (before text : List ℕ) → Row n IsEnd offset begun before text → length text ≤ count → length text ≤ total
    → offset ≡ total - length text → record_at count total begun before text ≡ Ok None
none_again zero count total offset begun before text is fuel within place = end_stops count total offset begun before text is place
none_again (suc n) zero total offset begun before text row fuel within place = end_stops zero total offset begun before text (inl (omega arith)) place
none_again (suc n) (suc count) total offset begun before text (p, row) fuel within place =
    elim (cases_lt (length text) 7) [
      | inl short ↦ end_stops (suc count) total offset begun before text (inl short) place
      | inr long ↦
          let len : length text ≡ length p.own + length p.later = ap length p.text_is ∙ length-append p.own p.later in
          let whole : length text ≡ length (p.own ++ p.later) = ap length p.text_is in
          let some = own_some offset begun before text p in
          let ih = none_again n count total (offset + length p.own) p.begun_after p.after p.later row (omega arith) (omega arith) (omega arith) in
          elim p.passes [
            | inr a ↦ ap (record_at (suc count) total begun before) p.text_is ∙ add_part_again count total offset begun before p.own p.later p.begun_after p.after a (omega arith) ∙ ih
            | inl s ↦ elim (cases_lt 0 (length p.later)) [
              | inl here ↦
                  ap (record_at (suc count) total begun before) p.text_is ∙ skip_part_again count total offset begun before p.own p.later p.begun_after p.after s (omega arith) (omega arith) here ∙ ih
              | inr nothing ↦ end_stops (suc count) total offset begun before text (part_ends offset begun before text p (omega arith) s) place
            ]
          ]
    ]

-- ---- whole logs

abbrev good : Whole → Result Whole LogFault
good w = Ok w

whole_is : (w v : Whole) → good w ≡ good v → w ≡ v
whole_is w v e = cc

cons_ok : (r : List ℕ) (read : Result Whole LogFault) (w : Whole) → with_records (r ∷ []) read ≡ Ok w → (v : Whole) × (read ≡ Ok v) × ((r ∷ v.0, v.1) ≡ w)
cons_ok r (Ok v) w e = (v, refl, whole_is (r ∷ v.0, v.1) w e)
cons_ok r (Err d) w e = absurd cc

abbrev Rest : ℕ → ℕ → Type 0
Rest count total = (text : List ℕ) (w : Whole) → length text ≤ count → length text ≤ total → IsBytes text → records_at count total text ≡ Ok w → LogFrom (total - length text) text w.0 w.1

-- a record before a log
pub record_then : (offset : ℕ) (text own rest whole : List ℕ) (records : List (List ℕ)) (count : ℕ) → text ≡ own ++ rest → IsRecord offset own whole → LogFrom (offset + length own) rest records count
    → LogFrom offset text (whole ∷ records) count
record_then offset text own rest whole records count is first g =
    let len = length-append own g.front in
    let there : offset + length own + length g.front ≡ offset + length (own ++ g.front) = omega arith in
    record {
      front = own ++ g.front;
      tail = g.tail;
      text_is = is ∙ ap (λ (x : List ℕ). own ++ x) g.text_is ∙ sym (append_assoc own g.front g.tail);
      spelled = (own, g.front, refl, first, g.spelled);
      none = subst (λ (o : ℕ). HoldsNone o g.tail) there g.none;
      rest_is = g.rest_is;
    }

pub nothing_more : (offset : ℕ) (text : List ℕ) (n : ℕ) → Row n IsEnd offset false [] text → LogFrom offset text [] (length text)
nothing_more offset text n row =
    let k : offset + length {A = ℕ} [] ≡ offset = omega arith in
    record { front = []; tail = text; text_is = refl; spelled = refl; none = rw k (record { count = n; row = row }); rest_is = refl }

on_next_takes : (count total : ℕ) (text : List ℕ) (w : Whole) → Rest count total → length text ≤ suc count → length text ≤ total → IsBytes text
    → (r : Result Next LogFault) → record_at (length text) total false [] text ≡ r → on_next text (records_at count total) r ≡ Ok w → LogFrom (total - length text) text w.0 w.1
on_next_takes count total text w later fuel within fits (Err d) is e = absurd cc
on_next_takes count total text w later fuel within fits (Ok None) is e =
    let t = record_takes (length text) total false [] text None (omega arith) within fits is in
    subst (λ (x : Whole). LogFrom (total - length text) text x.0 x.1) (whole_is ([], length text) w e) (nothing_more (total - length text) text t.0 t.1)
on_next_takes count total text w later fuel within fits (Ok (Some x)) is e =
    let t = record_takes (length text) total false [] text (Some x) (omega arith) within fits is in
    let c = cons_ok x.0 (records_at count total x.1) w e in
    let len : length text ≡ length t.0 + length x.1 = ap length t.1 ∙ length-append t.0 x.1 in
    let long = row_long t.2 x.0 (total - length text) false [] t.0 t.3 in
    let rest = later x.1 c.0 (omega arith) (omega arith) (IsBytes-after text t.0 x.1 t.1 fits) c.1 in
    let place : total - length x.1 ≡ (total - length text) + length t.0 = omega arith in
    let more : LogFrom ((total - length text) + length t.0) x.1 c.0.0 c.0.1 = subst (λ (o : ℕ). LogFrom o x.1 c.0.0 c.0.1) place rest in
    subst (λ (v : Whole). LogFrom (total - length text) text v.0 v.1) c.2 (record_then (total - length text) text t.0 x.1 x.0 c.0.0 c.0.1 t.1 (record { count = t.2; row = t.3 }) more)

pub records_takes : (count total : ℕ) → Rest count total
unfolding records_at
records_takes zero total text w fuel within fits e =
    subst (λ (x : Whole). LogFrom (total - length text) text x.0 x.1) (whole_is ([], length text) w e) (nothing_more (total - length text) text 0 (inl (omega arith)))
records_takes (suc count) total text w fuel within fits e =
    on_next_takes count total text w (records_takes count total) fuel within fits (record_at (length text) total false [] text) refl e

pub log_takes : (bytes : List ℕ) (w : Whole) → IsBytes bytes → log_at bytes ≡ Ok w → IsLog bytes w.0 w.1
log_takes bytes w fits e =
    let k : length bytes - length bytes ≡ 0 = omega arith in
    subst (λ (o : ℕ). LogFrom o bytes w.0 w.1) k (records_takes (length bytes) (length bytes) bytes w (omega arith) (omega arith) fits e)

stops : (count total : ℕ) (text : List ℕ) → record_at (length text) total false [] text ≡ Ok None → records_at count total text ≡ Ok ([], length text)
unfolding records_at
stops zero total text e = refl
stops (suc count) total text e = rw e refl

continues : (count total : ℕ) (text : List ℕ) (x : List ℕ × List ℕ) (w : Whole) → record_at (length text) total false [] text ≡ Ok (Some x) → records_at count total x.1 ≡ Ok w → records_at (suc count) total text ≡ Ok (x.0 ∷ w.0, w.1)
unfolding records_at
continues count total text x w one more = rw (one, more) refl

pub records_again : (records : List (List ℕ)) (count total offset : ℕ) (text : List ℕ) (rest : ℕ) → LogFrom offset text records rest → length text ≤ count → length text ≤ total
    → offset ≡ total - length text → records_at count total text ≡ Ok (records, rest)
records_again [] count total offset text rest g fuel within place =
    let same : text ≡ g.tail = g.text_is ∙ ap (λ (x : List ℕ). x ++ g.tail) g.spelled in
    let none : offset + length g.front ≡ offset = omega (arith, ap length g.spelled) in
    let row : Row g.none.count IsEnd offset false [] text = rw same (subst (λ (o : ℕ). Row g.none.count IsEnd o false [] g.tail) none g.none.row) in
    let len : length text ≡ rest = ap length same ∙ g.rest_is in
    subst (λ (n : ℕ). records_at count total text ≡ Ok ([], n)) len (stops count total text (none_again g.none.count (length text) total offset false [] text row (omega arith) within place))
records_again (r ∷ rs) zero total offset text rest g fuel within place =
    absurd (omega (arith, ap length g.text_is, length-append g.front g.tail, ap length g.spelled.2, length-append g.spelled.0 g.spelled.1, row_long g.spelled.3.count r offset false [] g.spelled.0 g.spelled.3.row))
records_again (r ∷ rs) (suc count) total offset text rest g fuel within place =
    let own = g.spelled.0 in
    let later = g.spelled.1 in
    let first = g.spelled.3 in
    let same : text ≡ own ++ (later ++ g.tail) = g.text_is ∙ ap (λ (x : List ℕ). x ++ g.tail) g.spelled.2 ∙ append_assoc own later g.tail in
    let same_len : length text ≡ length (own ++ (later ++ g.tail)) = ap length same in
    let len : length text ≡ length own + length (later ++ g.tail) = same_len ∙ length-append own (later ++ g.tail) in
    let long = row_long first.count r offset false [] own first.row in
    let one : record_at (length text) total false [] text ≡ Ok (Some (r, later ++ g.tail)) =
    ap (record_at (length text) total false []) same ∙ record_again first.count (length text) total offset false [] own (later ++ g.tail) r first.row (omega arith) (omega arith) (omega arith) in
    let front_len : length g.front ≡ length own + length later = ap length g.spelled.2 ∙ length-append own later in
    let there : offset + length g.front ≡ offset + length own + length later = omega arith in
    let more : LogFrom (offset + length own) (later ++ g.tail) rs rest = record {
      front = later;
      tail = g.tail;
      text_is = refl;
      spelled = g.spelled.4;
      none = subst (λ (o : ℕ). HoldsNone o g.tail) there g.none;
      rest_is = g.rest_is;
    } in
    let ih = records_again rs count total (offset + length own) (later ++ g.tail) rest more (omega arith) (omega arith) (omega arith) in
    continues count total text (r, later ++ g.tail) (rs, rest) one ih

pub log_again : (bytes : List ℕ) (records : List (List ℕ)) (rest : ℕ) → IsLog bytes records rest → log_at bytes ≡ Ok (records, rest)
log_again bytes records rest g = records_again records (length bytes) (length bytes) 0 bytes rest g (omega arith) (omega arith) (omega arith)

-- At most one list of records, with one rest, fits a log.
pub one_log : (bytes : List ℕ) (rs ss : List (List ℕ)) (m n : ℕ) → IsLog bytes rs m → IsLog bytes ss n → (rs ≡ ss) × (m ≡ n)
one_log bytes rs ss m n a b =
    let same = whole_is (rs, m) (ss, n) (sym (log_again bytes rs m a) ∙ log_again bytes ss n b) in
    (ap (λ (x : Whole). x.0) same, ap (λ (x : Whole). x.1) same)
