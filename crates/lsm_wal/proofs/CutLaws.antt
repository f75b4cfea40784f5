-- A record log that is cut anywhere, also within its rest, is a log of the first of its records.
use Rattle.std.proofs.Common.{◌≡◌, ℕ, zero, suc, ◌+◌, ◌-◌, ◌^◌, ◌<◌, ◌≤◌, ◌⊎◌, Bool, List, [], ◌∷◌}
use Rattle.std.proofs.Common.{◌++◌, false, length, take, refl, sym, ap, ◌∙◌, subst, arith, inl, inr}
use Rattle.std.proofs.Math.Seq.{take-append-add}
use Rattle.std.proofs.lemmas.Bool.{cases_lt}
use Rattle.std.proofs.lemmas.List.{take_all, take-append-le, length-take-le, get_or-take}
use Rattle.std.proofs.lemmas.List.{append-nil}
use Rattle.std.proofs.lemmas.Nat.{from_le_bytes-to_le_bytes_2}
use Rattle.lsm_manifest.specs.Log.{Adds, AreRecords, HoldsNone, IsEnd, IsFiller, IsLog, IsPiece}
use Rattle.lsm_manifest.specs.Log.{Part, Row, Skips, fragment, size_of, sum_bytes}
use Rattle.lsm_manifest.specs.LogWriting.{SpellsPrefix}

-- ---- the bytes of a fragment

length-fragment : (kind : ℕ) (body : List ℕ) → length (fragment kind body) ≡ 7 + length body
unfolding fragment sum_bytes
length-fragment kind body = omega arith

size_is : (kind : ℕ) (body rest : List ℕ) → length body < 2 ^ 16
    → size_of (fragment kind body ++ rest) ≡ length body
unfolding fragment sum_bytes
size_is kind body rest fits = from_le_bytes-to_le_bytes_2 (length body) fits

size_of-take : (m : ℕ) (text : List ℕ) → 7 ≤ m → size_of (take m text) ≡ size_of text
size_of-take m text h =
    let a = get_or-take m text 4 0 (omega arith) in
    let b = get_or-take m text 5 0 (omega arith) in
    rw (a, b) refl

-- ---- what is cut is an end

-- a front that goes past what is first
take_past : (m : ℕ) (own later : List ℕ) → length own ≤ m
    → take m (own ++ later) ≡ own ++ take (m - length own) later
take_past m own later h =
    let k : m ≡ length own + (m - length own) = omega arith in
    ap (λ (n : ℕ). take n (own ++ later)) k ∙ take-append-add own later (m - length own)

-- zeros that are cut behind a header
cut_filler : (begun : Bool) (own : List ℕ) → IsFiller begun own → (m : ℕ) → 7 ≤ m → m < length own
    → IsFiller begun (take m own)
cut_filler begun own filler m long lt =
    let len : length (take m own) ≡ m = length-take-le m own (omega arith) in
    record {
      outside = filler.outside;
      long = omega arith;
      no_size = size_of-take m own long ∙ filler.no_size;
      no_kind = get_or-take m own 6 0 (omega arith) ∙ filler.no_kind;
    }

-- within a fragment
cut_piece : (offset : ℕ) (begun : Bool) (before : List ℕ) (kind : ℕ) (body own : List ℕ)
    → IsPiece offset begun before kind body own → (m : ℕ) → m < length own
    → IsEnd offset begun before (take m own)
cut_piece offset begun before kind body own p m lt =
    let len : length (take m own) ≡ m = length-take-le m own (omega arith) in
    let whole : length own ≡ 7 + length body = ap length p.own_is ∙ length-fragment kind body in
    elim (cases_lt m 7) [
      | inl short ↦ inl (omega arith)
      | inr long ↦
          let same : own ≡ fragment kind body ++ [] =
          p.own_is ∙ sym (append-nil (fragment kind body)) in
          let size : size_of (take m own) ≡ length body =
          size_of-take m own long ∙ ap size_of same
          ∙ size_is kind body [] (omega (arith, p.fits)) in
          inr (omega (arith, p.fits), inl (omega arith))
    ]

-- within a part that is skipped
cut_skipped : (offset : ℕ) (begun : Bool) (before own : List ℕ) (begun_after : Bool)
    (after : List ℕ) → Skips offset begun before own begun_after after → (m : ℕ) → m < length own
    → IsEnd offset begun before (take m own)
cut_skipped offset begun before own begun_after after s m lt =
    let len : length (take m own) ≡ m = length-take-le m own (omega arith) in
    elim (cases_lt m 7) [
      | inl short ↦ inl (omega arith)
      | inr long ↦ elim s.why [
        | inl small ↦ inl (omega (arith, s.whole))
        | inr filler ↦ inr (omega (arith, s.whole), inr (cut_filler begun own filler m long lt))
      ]
    ]

cut_part : (offset : ℕ) (begun : Bool) (before own : List ℕ) (begun_after : Bool) (after : List ℕ)
    → Skips offset begun before own begun_after after ⊎ Adds offset begun before own begun_after
    after → (m : ℕ) → m < length own → IsEnd offset begun before (take m own)
cut_part offset begun before own begun_after after (inl s) m lt =
    cut_skipped offset begun before own begun_after after s m lt
cut_part offset begun before own begun_after after (inr a) m lt =
    cut_piece offset begun before a.kind a.body own a.piece m lt

-- within an end
cut_end : (offset : ℕ) (begun : Bool) (before text : List ℕ) → IsEnd offset begun before text
    → (m : ℕ) → IsEnd offset begun before (take m text)
cut_end offset begun before text is m = elim (cases_lt m (length text)) [
  | inr past ↦ subst (λ (t : List ℕ). IsEnd offset begun before t) (sym (take_all m text past)) is
  | inl within ↦
      let len : length (take m text) ≡ m = length-take-le m text (omega arith) in
      elim (cases_lt m 7) [
        | inl short ↦ inl (omega arith)
        | inr long ↦ elim is [
          | inl few ↦ absurd (omega arith)
          | inr more ↦
              let room = more.0 in
              inr (
                omega arith,
                elim more.1 [
                  | inl torn ↦ (let size = size_of-take m text long in inl (omega arith))
                  | inr filler ↦ inr (cut_filler begun text filler m long within)
                ],
              )
        ]
      ]
]

-- within what holds no record
cut_row : (n offset : ℕ) (begun : Bool) (before text : List ℕ)
    → Row n IsEnd offset begun before text → (m : ℕ)
    → (k : ℕ) × Row k IsEnd offset begun before (take m text)
cut_row zero offset begun before text is m = (0, cut_end offset begun before text is m)
cut_row (suc n) offset begun before text (p, row) m =
    elim (cases_lt m (length p.own)) [
      | inl within ↦
          let front : take m text ≡ take m p.own =
          ap (take m) p.text_is ∙ take-append-le m p.own p.later (omega arith) in
          let is = cut_part offset begun before p.own p.begun_after p.after p.passes m within in
          (0, subst (λ (x : List ℕ). IsEnd offset begun before x) (sym front) is)
      | inr past ↦
          let more = m - length p.own in
          let front : take m text ≡ p.own ++ take more p.later =
          ap (take m) p.text_is ∙ take_past m p.own p.later past in
          let ih = cut_row n (offset + length p.own) p.begun_after p.after p.later row more in
          let q : Part offset begun before (take m text) = record {
            own = p.own;
            later = take more p.later;
            begun_after = p.begun_after;
            after = p.after;
            text_is = front;
            passes = p.passes;
          } in
          (suc ih.0, (q, ih.1))
    ]

cut_none : (offset : ℕ) (text : List ℕ) → HoldsNone offset text → (m : ℕ)
    → HoldsNone offset (take m text)
cut_none offset text none m =
    let cut = cut_row none.count offset false [] text none.row m in
    record { count = cut.0; row = cut.1 }

-- ---- a log

abbrev pub Prefixes : Type 0
Prefixes = (bytes : List ℕ) (records : List (List ℕ)) → AreRecords 0 bytes records → (n : ℕ)
    → SpellsPrefix (take n bytes) records

pub cut_log : Prefixes → (bytes : List ℕ) (records : List (List ℕ)) (rest : ℕ)
    → IsLog bytes records rest → (n : ℕ) → SpellsPrefix (take n bytes) records
cut_log prefixes bytes records rest l n = elim (cases_lt n (length l.front)) [
  | inl within ↦
      let same : take n bytes ≡ take n l.front =
      ap (take n) l.text_is ∙ take-append-le n l.front l.tail (omega arith) in
      subst (λ (b : List ℕ). SpellsPrefix b records) (sym same)
      (prefixes l.front records l.spelled n)
  | inr past ↦
      let more = take (n - length l.front) l.tail in
      let all : take (length records) records ≡ records =
      take_all (length records) records (omega arith) in
      let is : IsLog (take n bytes) records (length more) = record {
        front = l.front;
        tail = more;
        text_is = ap (take n) l.text_is ∙ take_past n l.front l.tail past;
        spelled = l.spelled;
        none = cut_none (0 + length l.front) l.tail l.none (n - length l.front);
        rest_is = refl;
      } in
      record {
        whole = length records;
        rest = length more;
        is = subst (λ (rs : List (List ℕ)). IsLog (take n bytes) rs (length more)) (sym all) is;
      }
]
