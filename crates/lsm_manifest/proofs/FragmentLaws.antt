-- What is found at a place stands there, and what stands there is found.
use Rattle.std.proofs.Common.{◌≡◌, ℕ, zero, suc, ◌+◌, ◌^◌, ◌<◌, ◌≤◌, ◌⊎◌, Bool, true, false, cond, eqb, ltb, leb, List, [], ◌∷◌, ◌++◌, length, get_or, take, drop, Some, None, Result, Ok, Err, refl, sym, ap, ◌∙◌, subst, append_assoc, arith, inl, inr}
use Rattle.std.specs.Prelude.{◌&&◌, ◌||◌}
use Rattle.std.specs.Str.{bytes_eq}
use Rattle.std.specs.Int.{w16, to_le_bytes}
use Rattle.std.proofs.lemmas.Bool.{cases_lt, and_parts, and_cases, or_parts, or_cases, le-ltb, lt-ltb, ltb-true, ltb-false, le-leb, lt-leb, leb-true, leb-false, eqb-true, eqb-false, ne_eqb}
use Rattle.std.proofs.lemmas.Nat.{le_bytes_2, from_le_bytes-to_le_bytes_2}
use Rattle.std.proofs.lemmas.Slice.Eq.{bytes_eq-Decides}
use Rattle.std.proofs.lemmas.List.{take_at, drop_at, take-append-drop, length-append, length-drop, length-take-le, get_or_append_left}
use Rattle.lsm_codec.proofs.CallerLemmas.{IsBytes}
use Rattle.lsm_manifest.specs.declared.log_fault.LogFault.{LogFault}
use Rattle.lsm_manifest.specs.declared.log_fault.LogFault.TheVariants.{LogChecksum, LogOrder, LogType}
use Rattle.lsm_manifest.specs.Log.{left, sum_bytes, fragment, size_of, kind_of, may_follow, IsPiece, IsFiller, IsEnd}
use Rattle.lsm_manifest.specs.LogReading.{LogPart, skipped, filler_at, checked_at, framed_at, found_at}

-- ---- the bytes of a fragment

pub length-fragment : (kind : ℕ) (body : List ℕ) → length (fragment kind body) ≡ 7 + length body
unfolding fragment sum_bytes
length-fragment kind body = omega arith

pub head_is : (kind : ℕ) (body rest : List ℕ) → take 4 (fragment kind body ++ rest) ≡ sum_bytes kind body
unfolding fragment sum_bytes
head_is kind body rest = refl

pub body_is : (kind : ℕ) (body rest : List ℕ) → drop 7 (fragment kind body ++ rest) ≡ body ++ rest
unfolding fragment sum_bytes
body_is kind body rest = refl

pub kind_is : (kind : ℕ) (body rest : List ℕ) → kind_of (fragment kind body ++ rest) ≡ kind
unfolding fragment sum_bytes
kind_is kind body rest = refl

pub size_is : (kind : ℕ) (body rest : List ℕ) → length body < 2 ^ 16 → size_of (fragment kind body ++ rest) ≡ length body
unfolding fragment sum_bytes
size_is kind body rest fits = from_le_bytes-to_le_bytes_2 (length body) fits

-- seven bytes, and what follows them
seven : (text : List ℕ) → 7 ≤ length text
    → text ≡ get_or text 0 0 ∷ get_or text 1 0 ∷ get_or text 2 0 ∷ get_or text 3 0 ∷ get_or text 4 0 ∷ get_or text 5 0 ∷ get_or text 6 0 ∷ drop 7 text
seven [] h = absurd (omega arith)
seven (a ∷ []) h = absurd (omega arith)
seven (a ∷ b ∷ []) h = absurd (omega arith)
seven (a ∷ b ∷ c ∷ []) h = absurd (omega arith)
seven (a ∷ b ∷ c ∷ d ∷ []) h = absurd (omega arith)
seven (a ∷ b ∷ c ∷ d ∷ e ∷ []) h = absurd (omega arith)
seven (a ∷ b ∷ c ∷ d ∷ e ∷ f ∷ []) h = absurd (omega arith)
seven (a ∷ b ∷ c ∷ d ∷ e ∷ f ∷ g ∷ text) h = refl

pub is_fragment : (text body rest : List ℕ) → 7 ≤ length text → IsBytes text → take 4 text ≡ sum_bytes (kind_of text) body → size_of text ≡ length body → drop 7 text ≡ body ++ rest
    → text ≡ fragment (kind_of text) body ++ rest
unfolding fragment
is_fragment text body rest long fits head size after =
    let s = seven text long in
    let four : sum_bytes (kind_of text) body ≡ get_or text 0 0 ∷ get_or text 1 0 ∷ get_or text 2 0 ∷ get_or text 3 0 ∷ [] = sym head ∙ ap (take 4) s in
    let two : to_le_bytes w16 (length body) ≡ get_or text 4 0 ∷ get_or text 5 0 ∷ [] =
    le_bytes_2 (get_or text 4 0 ∷ get_or text 5 0 ∷ []) (length body) refl (pair_fits (get_or text 4 0) (get_or text 5 0) (fits 4) (fits 5)) (sym size) in
    let tail : (kind_of text ∷ body) ++ rest ≡ kind_of text ∷ drop 7 text = ap (λ (x : List ℕ). kind_of text ∷ x) (sym after) in
    s ∙ sym (append_assoc (sum_bytes (kind_of text) body) (to_le_bytes w16 (length body) ++ (kind_of text ∷ body)) rest
    ∙ ap (λ (x : List ℕ). sum_bytes (kind_of text) body ++ x) (append_assoc (to_le_bytes w16 (length body)) (kind_of text ∷ body) rest)
    ∙ ap (λ (x : List ℕ). x ++ (to_le_bytes w16 (length body) ++ ((kind_of text ∷ body) ++ rest))) four
    ∙ ap (λ (x : List ℕ). get_or text 0 0 ∷ get_or text 1 0 ∷ get_or text 2 0 ∷ get_or text 3 0 ∷ (x ++ ((kind_of text ∷ body) ++ rest))) two
    ∙ ap (λ (x : List ℕ). get_or text 0 0 ∷ get_or text 1 0 ∷ get_or text 2 0 ∷ get_or text 3 0 ∷ get_or text 4 0 ∷ get_or text 5 0 ∷ x) tail)
  where
    pair_fits : (a b : ℕ) → a < 256 → b < 256 → (i : ℕ) → get_or (a ∷ b ∷ []) i 0 < 256
    pair_fits a b h k zero = h
    pair_fits a b h k (suc zero) = k
    pair_fits a b h k (suc (suc i)) = omega arith

-- ---- what is found stands there

pub record Skipped (offset : ℕ) (begun : Bool) (text rest : List ℕ) : Type 0 where
  pub own : List ℕ
  pub text_is : text ≡ own ++ rest
  pub whole : length own ≡ left offset
  pub why : (left offset < 7) ⊎ IsFiller begun own

pub record Pieced (offset : ℕ) (text : List ℕ) (kind : ℕ) (body rest : List ℕ) : Type 0 where
  pub text_is : text ≡ fragment kind body ++ rest
  pub fits : 7 + length body ≤ left offset

abbrev pub IsFound : ℕ → Bool → List ℕ → LogPart → Type 0
IsFound offset begun text None = IsEnd offset begun [] text
IsFound offset begun text (Some x) = ((x.0 ≡ 0) × Skipped offset begun text x.2) ⊎ ((x.0 ≡ 0 → ⊥) × Pieced offset text x.0 x.1 x.2)

abbrev got : LogPart → Result LogPart LogFault
got f = Ok f

got_is : (f g : LogPart) → got f ≡ got g → f ≡ g
got_is f g e = cc

-- a test that a reader makes
if_ok : (b : Bool) (x y : Result LogPart LogFault) (f : LogPart) → cond b x y ≡ Ok f → ((b ≡ true) × (x ≡ Ok f)) ⊎ ((b ≡ false) × (y ≡ Ok f))
if_ok true x y f e = inl (refl, e)
if_ok false x y f e = inr (refl, e)

skipped_takes : (offset : ℕ) (begun : Bool) (text : List ℕ) → left offset ≤ length text → (left offset < 7) ⊎ IsFiller begun (take (left offset) text) → IsFound offset begun text (skipped offset text)
skipped_takes offset begun text long why =
    inl (refl, record { own = take (left offset) text; text_is = sym (take-append-drop (left offset) text); whole = length-take-le (left offset) text long; why = why })

-- the numbers of a header are those of a front with the header
size_of-front : (own rest : List ℕ) → 7 ≤ length own → size_of (own ++ rest) ≡ size_of own
size_of-front own rest long =
    let a = get_or_append_left own rest 0 4 (omega arith) in
    let b = get_or_append_left own rest 0 5 (omega arith) in
    rw (a, b) refl

kind_of-front : (own rest : List ℕ) → 7 ≤ length own → kind_of (own ++ rest) ≡ kind_of own
kind_of-front own rest long = get_or_append_left own rest 0 6 (omega arith)

filler_takes : (offset : ℕ) (begun : Bool) (text : List ℕ) (f : LogPart) → 7 ≤ length text → 7 ≤ left offset → size_of text ≡ 0 → kind_of text ≡ 0
    → filler_at offset begun text ≡ Ok f → IsFound offset begun text f
unfolding filler_at
filler_takes offset true text f long room size kind e = absurd cc
filler_takes offset false text f long room size kind e =
    elim (if_ok (leb (length text) (left offset)) (got None) (got (skipped offset text)) f e) [
      | inl at_end ↦
          let le = leb-true _ _ at_end.0 in
          let filler : IsFiller false text = record { outside = refl; long = long; no_size = size; no_kind = kind } in
          subst (IsFound offset false text) (got_is None f at_end.1) (inr (le, inr filler))
      | inr within ↦
          let more = leb-false _ _ within.0 in
          let own = take (left offset) text in
          let len : length own ≡ left offset = length-take-le (left offset) text (omega arith) in
          let same : own ++ drop (left offset) text ≡ text = take-append-drop (left offset) text in
          let filler : IsFiller false own = record {
            outside = refl;
            long = omega arith;
            no_size = sym (size_of-front own (drop (left offset) text) (omega arith)) ∙ ap size_of same ∙ size;
            no_kind = sym (kind_of-front own (drop (left offset) text) (omega arith)) ∙ ap kind_of same ∙ kind;
          } in
          subst (IsFound offset false text) (got_is (skipped offset text) f within.1) (skipped_takes offset false text (omega arith) (inr filler))
    ]

checked_takes : (offset : ℕ) (begun : Bool) (text : List ℕ) (f : LogPart) → IsBytes text → 7 + size_of text ≤ left offset → 7 + size_of text ≤ length text
    → checked_at offset text (size_of text) (kind_of text) ≡ Ok f → IsFound offset begun text f
unfolding checked_at
checked_takes offset begun text f fits room long e =
    let body = take (size_of text) (drop 7 text) in
    let rest = drop (size_of text) (drop 7 text) in
    elim (if_ok (bytes_eq (take 4 text) (sum_bytes (kind_of text) body)) (cond (eqb (kind_of text) 0 || ltb 4 (kind_of text)) (Err (LogType offset)) (got (Some (kind_of text, body, rest)))) (Err (LogChecksum offset)) f e) [
      | inr wrong ↦ absurd (let bad = wrong.1 in cc)
      | inl right ↦
          let head : take 4 text ≡ sum_bytes (kind_of text) body = (bytes_eq-Decides _ _).0 right.0 in
          elim (if_ok (eqb (kind_of text) 0 || ltb 4 (kind_of text)) (Err (LogType offset)) (got (Some (kind_of text, body, rest))) f right.1) [
            | inl wrong ↦ absurd (let bad = wrong.1 in cc)
            | inr known ↦
                let parts = or_parts (eqb (kind_of text) 0) (ltb 4 (kind_of text)) known.0 in
                let len : length body ≡ size_of text = length-take-le (size_of text) (drop 7 text) (omega (arith, length-drop 7 text)) in
                let piece : Pieced offset text (kind_of text) body rest = record {
                  text_is = is_fragment text body rest (omega arith) fits head (sym len) (sym (take-append-drop (size_of text) (drop 7 text)));
                  fits = omega arith;
                } in
                subst (IsFound offset begun text) (got_is (Some (kind_of text, body, rest)) f known.1) (inr (eqb-false _ _ parts.0, piece))
          ]
    ]

-- what passes the end of the block passes the end of a file that ends in it
cut_off : (size room len : ℕ) → len ≤ room → (leb size room && leb size len) ≡ false → len < size
cut_off size room len le e =
    elim (and_cases (leb size room) (leb size len) e) [
      | inl a ↦ let x : room < size = leb-false size room a in omega arith
      | inr b ↦ leb-false size len b
    ]

framed_takes : (offset : ℕ) (begun : Bool) (text : List ℕ) (f : LogPart) → IsBytes text → 7 ≤ length text → 7 ≤ left offset
    → framed_at offset begun text (size_of text) (kind_of text) ≡ Ok f → IsFound offset begun text f
unfolding framed_at
framed_takes offset begun text f fits long room e =
    let size = size_of text in
    let kind = kind_of text in
    let late = cond (leb (length text) (left offset)) (got None) (Err (LogOrder offset)) in
    elim (if_ok (eqb kind 0 && eqb size 0) (filler_at offset begun text) (cond (leb (7 + size) (left offset) && leb (7 + size) (length text)) (checked_at offset text size kind) late) f e) [
      | inl zeros ↦
          let parts = and_parts (eqb kind 0) (eqb size 0) zeros.0 in
          filler_takes offset begun text f long room (eqb-true _ _ parts.1) (eqb-true _ _ parts.0) zeros.1
      | inr some ↦
          elim (if_ok (leb (7 + size) (left offset) && leb (7 + size) (length text)) (checked_at offset text size kind) late f some.1) [
            | inl whole ↦
                let parts = and_parts (leb (7 + size) (left offset)) (leb (7 + size) (length text)) whole.0 in
                checked_takes offset begun text f fits (leb-true _ _ parts.0) (leb-true _ _ parts.1) whole.1
            | inr cut ↦
                elim (if_ok (leb (length text) (left offset)) (got None) (Err (LogOrder offset)) f cut.1) [
                  | inr wrong ↦ absurd (let bad = wrong.1 in cc)
                  | inl at_end ↦
                      let le : length text ≤ left offset = leb-true _ _ at_end.0 in
                      let torn : length text < 7 + size = cut_off (7 + size) (left offset) (length text) le cut.0 in
                      subst (IsFound offset begun text) (got_is None f at_end.1) (inr (le, inl torn))
                ]
          ]
    ]

pub found_takes : (offset : ℕ) (begun : Bool) (text : List ℕ) (f : LogPart) → IsBytes text → found_at offset begun text ≡ Ok f → IsFound offset begun text f
unfolding found_at
found_takes offset begun text f fits e =
    let framed = framed_at offset begun text (size_of text) (kind_of text) in
    elim (if_ok (ltb (length text) 7) (got None) (cond (ltb (left offset) 7) (got (skipped offset text)) framed) f e) [
      | inl short ↦ subst (IsFound offset begun text) (got_is None f short.1) (inl (ltb-true _ _ short.0))
      | inr some ↦
          let long = ltb-false _ _ some.0 in
          elim (if_ok (ltb (left offset) 7) (got (skipped offset text)) framed f some.1) [
            | inl small ↦
                let lt = ltb-true _ _ small.0 in
                subst (IsFound offset begun text) (got_is (skipped offset text) f small.1) (skipped_takes offset begun text (omega arith) (inl lt))
            | inr roomy ↦ framed_takes offset begun text f fits long (ltb-false _ _ roomy.0) roomy.1
          ]
    ]

-- ---- what stands there is found

one_of : (kind a b : ℕ) → 0 < a → 0 < b → a ≤ 4 → b ≤ 4 → (eqb kind a || eqb kind b) ≡ true → (eqb kind 0 ≡ false) × (ltb 4 kind ≡ false)
one_of kind a b ha hb la lb e =
    elim (or_cases (eqb kind a) (eqb kind b) e) [
      | inl x ↦ let k : kind ≡ a = eqb-true kind a x in (ne_eqb kind 0 (λ z. absurd (omega arith)), le-ltb 4 kind (omega arith))
      | inr x ↦ let k : kind ≡ b = eqb-true kind b x in (ne_eqb kind 0 (λ z. absurd (omega arith)), le-ltb 4 kind (omega arith))
    ]

pub kind_fits : (begun : Bool) (before : List ℕ) (kind : ℕ) → may_follow begun before kind ≡ true → (eqb kind 0 ≡ false) × (ltb 4 kind ≡ false)
unfolding may_follow
kind_fits begun before kind e =
    elim (or_cases ((eqb kind 1 || eqb kind 2) && eqb (length before) 0) ((eqb kind 3 || eqb kind 4) && begun) e) [
      | inl a ↦ one_of kind 1 2 (omega arith) (omega arith) (omega arith) (omega arith) (and_parts (eqb kind 1 || eqb kind 2) (eqb (length before) 0) a).0
      | inr b ↦ one_of kind 3 4 (omega arith) (omega arith) (omega arith) (omega arith) (and_parts (eqb kind 3 || eqb kind 4) begun b).0
    ]

pub piece_again : (offset : ℕ) (begun inside : Bool) (before : List ℕ) (kind : ℕ) (body own rest : List ℕ) → IsPiece offset begun before kind body own
    → found_at offset inside (own ++ rest) ≡ Ok (Some (kind, body, rest))
unfolding found_at framed_at checked_at may_follow
piece_again offset begun inside before kind body own rest p =
    let text = fragment kind body ++ rest in
    let known : (eqb kind 0 ≡ false) × (ltb 4 kind ≡ false) = kind_fits begun before kind p.follows in
    let len : length text ≡ 7 + (length body + length rest) = omega (arith, length-append (fragment kind body) rest, length-fragment kind body) in
    let long : ltb (length text) 7 ≡ false = le-ltb _ _ (omega arith) in
    let room : ltb (left offset) 7 ≡ false = le-ltb _ _ (omega (arith, p.fits)) in
    let size : size_of text ≡ length body = size_is kind body rest (omega (arith, p.fits)) in
    let k : kind_of text ≡ kind = kind_is kind body rest in
    let fits1 : leb (7 + length body) (left offset) ≡ true = le-leb _ _ p.fits in
    let fits2 : leb (7 + length body) (length text) ≡ true = le-leb _ _ (omega arith) in
    let after = body_is kind body rest in
    let t : take (length body) (body ++ rest) ≡ body = take_at body rest (length body) refl in
    let d : drop (length body) (body ++ rest) ≡ rest = drop_at body rest (length body) refl in
    let right : bytes_eq (take 4 text) (sum_bytes kind body) ≡ true = (bytes_eq-Decides _ _).1 (head_is kind body rest) in
    ap (λ (x : List ℕ). found_at offset inside (x ++ rest)) p.own_is ∙ rw (long, room, size, k, known.0, fits1, fits2, after, t, right, known.1, d) refl

-- A part that is skipped, where the file goes on for a header's length.
pub skip_again : (offset : ℕ) (begun : Bool) (own rest : List ℕ) → 7 ≤ length (own ++ rest) → length own ≡ left offset → 0 < length rest → (left offset < 7) ⊎ IsFiller begun own
    → found_at offset begun (own ++ rest) ≡ Ok (Some (0, [], rest))
unfolding found_at framed_at filler_at
skip_again offset begun own rest long whole more (inl small) =
    let a : ltb (length (own ++ rest)) 7 ≡ false = le-ltb _ _ long in
    let b : ltb (left offset) 7 ≡ true = lt-ltb _ _ small in
    let d : drop (left offset) (own ++ rest) ≡ rest = drop_at own rest (left offset) whole in
    rw (a, b, d) refl
skip_again offset begun own rest long whole more (inr filler) =
    let a : ltb (length (own ++ rest)) 7 ≡ false = le-ltb _ _ long in
    let b : ltb (left offset) 7 ≡ false = le-ltb _ _ (omega (arith, filler.long, whole)) in
    let size : size_of (own ++ rest) ≡ 0 = size_of-front own rest filler.long ∙ filler.no_size in
    let kind : kind_of (own ++ rest) ≡ 0 = kind_of-front own rest filler.long ∙ filler.no_kind in
    let out = filler.outside in
    let past : leb (length (own ++ rest)) (left offset) ≡ false = lt-leb _ _ (omega (arith, length-append own rest, whole, more)) in
    let d : drop (left offset) (own ++ rest) ≡ rest = drop_at own rest (left offset) whole in
    rw (a, b, size, kind, out, past, d) refl

pub end_again : (offset : ℕ) (begun : Bool) (before text : List ℕ) → IsEnd offset begun before text → found_at offset begun text ≡ Ok None
unfolding found_at framed_at filler_at
end_again offset begun before text (inl short) = let a : ltb (length text) 7 ≡ true = lt-ltb _ _ short in rw a refl
end_again offset begun before text (inr (le, why)) =
    elim (cases_lt (length text) 7) [
      | inl short ↦ let a : ltb (length text) 7 ≡ true = lt-ltb _ _ short in rw a refl
      | inr long ↦ elim (cases_lt (left offset) 7) [
        | inl small ↦ absurd (omega arith)
        | inr room ↦
            let a : ltb (length text) 7 ≡ false = le-ltb _ _ long in
            let b : ltb (left offset) 7 ≡ false = le-ltb _ _ room in
            let within : leb (length text) (left offset) ≡ true = le-leb _ _ le in
            elim why [
              | inl torn ↦
                  let some : eqb (size_of text) 0 ≡ false = ne_eqb (size_of text) 0 (λ z. absurd (omega arith)) in
                  let zeros : (eqb (kind_of text) 0 && eqb (size_of text) 0) ≡ false = and_off (eqb (kind_of text) 0) (eqb (size_of text) 0) some in
                  let past : leb (7 + size_of text) (length text) ≡ false = lt-leb _ _ torn in
                  let cut : (leb (7 + size_of text) (left offset) && leb (7 + size_of text) (length text)) ≡ false = and_off (leb (7 + size_of text) (left offset)) (leb (7 + size_of text) (length text)) past in
                  rw (a, b, zeros, cut, within) refl
              | inr filler ↦
                  let size = filler.no_size in
                  let kind = filler.no_kind in
                  let out = filler.outside in
                  rw (a, b, size, kind, out, within) refl
            ]
      ]
    ]
  where
    and_off : (a b : Bool) → b ≡ false → (a && b) ≡ false
    and_off true b e = e
    and_off false b e = refl
