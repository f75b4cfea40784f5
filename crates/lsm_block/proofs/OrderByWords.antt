-- Texts that are compared eight bytes at a time, each eight as one number, the first byte the
-- highest.
use Rattle.std.proofs.Common.{◌≡◌, ℕ, suc, ◌+◌, ◌*◌, ◌^◌, ◌<◌, ◌≤◌, List, [], ◌∷◌, ◌++◌}
use Rattle.std.proofs.Common.{length, take, drop, Ordering, Less, Equal, Greater, refl, sym}
use Rattle.std.proofs.Common.{slice_index}
use Rattle.std.proofs.Common.{ap, ◌∙◌, arith, inl, inr}
use Rattle.std.specs.Int.{w64, from_be_bytes}
use Rattle.std.specs.Ordering.{nat_cmp, ordering_then}
use Rattle.std.specs.Cmp.{nat_cmp_is}
use Rattle.std.specs.Cmp.Lexicographic.{slice_cmp}
use Rattle.std.proofs.Math.Nat.{mul-le-mul_right, pow-succ'}
use Rattle.std.proofs.lemmas.Bool.{cases_lt}
use Rattle.std.proofs.lemmas.Cmp.{nat_cmp_total, tied_itself}
use Rattle.std.proofs.lemmas.List.{take-append-drop, length-take-le}
use Rattle.lsm_codec.proofs.CallerLemmas.{IsBytes}
use Rattle.lsm_block.proofs.EntryLaws.{IsBytes-take}
use Rattle.lsm_block.proofs.JoinLaws.{cmp_parts}

-- a text as one number, the first byte the highest
high : List ℕ → ℕ
high [] = 0
high (x ∷ xs) = x * 256 ^ length xs + high xs

times : (x y p : ℕ) → x < y → x * p + p ≤ y * p
times x y p h =
    let le : suc x * p ≤ y * p = mul-le-mul_right p (omega (arith, h)) in
    omega (arith, le)

high_below : (xs : List ℕ) → IsBytes xs → high xs < 256 ^ length xs
unfolding high
high_below [] fits = omega arith
high_below (x ∷ xs) fits =
    let p = 256 ^ length xs in
    let later = high_below xs (λ i. fits (suc i)) in
    let top = times x 256 p (fits 0) in
    omega (arith, top, later, pow-succ' 256 (length xs))

-- a number of two digits, in a base that is above the lower ones
two_digits : (x y a b p : ℕ) → a < p → b < p
    → nat_cmp (x * p + a) (y * p + b) ≡ ordering_then (nat_cmp x y) (nat_cmp a b)
two_digits x y a b p h k =
    elim (cases_lt x y) [
      | inl lt ↦
          let first : nat_cmp x y ≡ Less = sym (nat_cmp_is x y Less lt) in
          rw first (sym (nat_cmp_is (x * p + a) (y * p + b) Less (omega (arith, times x y p lt))))
      | inr le ↦ elim (cases_lt y x) [
        | inl lt ↦
            let first : nat_cmp x y ≡ Greater = sym (nat_cmp_is x y Greater lt) in
            rw first (sym (nat_cmp_is (x * p + a) (y * p + b) Greater
            (omega (arith, times y x p lt))))
        | inr ge ↦
            let same : y ≡ x = omega (arith, le, ge) in
            let first : nat_cmp x y ≡ Equal = ap (nat_cmp x) same ∙ tied_itself nat_cmp_total x in
            rw first (ap (λ (z : ℕ). nat_cmp (x * p + a) (z * p + b)) same ∙ behind (x * p) a b)
      ]
    ]
  where
    behind : (n i j : ℕ) → nat_cmp (n + i) (n + j) ≡ nat_cmp i j
    behind n i j =
        elim (cases_lt i j) [
          | inl lt ↦ sym (nat_cmp_is (n + i) (n + j) Less (omega (arith, lt)))
              ∙ nat_cmp_is i j Less lt
          | inr le ↦ elim (cases_lt j i) [
            | inl lt ↦ sym (nat_cmp_is (n + i) (n + j) Greater (omega (arith, lt)))
                ∙ nat_cmp_is i j Greater lt
            | inr ge ↦ sym (nat_cmp_is (n + i) (n + j) Equal (omega (arith, le, ge)))
                ∙ nat_cmp_is i j Equal (omega (arith, le, ge))
          ]
        ]

high_cmp : (xs ys : List ℕ) → IsBytes xs → IsBytes ys → length xs ≡ length ys
    → nat_cmp (high xs) (high ys) ≡ slice_cmp nat_cmp xs ys
unfolding high
high_cmp [] [] fx fy e = refl
high_cmp [] (y ∷ ys) fx fy e = absurd (omega (arith, e))
high_cmp (x ∷ xs) [] fx fy e = absurd (omega (arith, e))
high_cmp (x ∷ xs) (y ∷ ys) fx fy e =
    let len : length xs ≡ length ys = omega (arith, e) in
    let top : 256 ^ length ys ≡ 256 ^ length xs = ap (λ (n : ℕ). 256 ^ n) (sym len) in
    let a = high_below xs (λ i. fx (suc i)) in
    let b : high ys < 256 ^ length xs = rw (← top) (high_below ys (λ i. fy (suc i))) in
    ap (λ (p : ℕ). nat_cmp (x * 256 ^ length xs + high xs) (y * p + high ys)) top
    ∙ two_digits x y (high xs) (high ys) (256 ^ length xs) a b
    ∙ ap (ordering_then (nat_cmp x y)) (high_cmp xs ys (λ i. fx (suc i)) (λ i. fy (suc i)) len)

high_eight : (xs : List ℕ) → length xs ≡ 8 → from_be_bytes w64 xs ≡ high xs
unfolding high
high_eight (a ∷ b ∷ c ∷ d ∷ e ∷ f ∷ g ∷ h ∷ []) len = omega arith
high_eight xs len = absurd (omega arith)

-- eight bytes compare as their numbers do
pub eight_cmp : (xs ys : List ℕ) → IsBytes xs → IsBytes ys → length xs ≡ 8 → length ys ≡ 8
    → nat_cmp (from_be_bytes w64 xs) (from_be_bytes w64 ys) ≡ slice_cmp nat_cmp xs ys
eight_cmp xs ys fx fy ex ey = rw (high_eight xs ex, high_eight ys ey)
    (high_cmp xs ys fx fy (ex ∙ sym ey))

-- the first eight bytes of two texts as numbers, and the rest
pub by_eight : (a b x xs y ys : List ℕ) (m n : ℕ) (o : Ordering) → x ≡ take 8 a → xs ≡ drop 8 a
    → y ≡ take 8 b → ys ≡ drop 8 b → IsBytes a → IsBytes b → 8 ≤ length a → 8 ≤ length b
    → m ≡ from_be_bytes w64 x → n ≡ from_be_bytes w64 y → nat_cmp m n ≡ o
    → slice_cmp nat_cmp a b ≡ ordering_then o (slice_cmp nat_cmp xs ys)
by_eight a b x xs y ys m n o ex exs ey eys fa fb la lb em en eo =
    let lx = length-take-le 8 a la in
    let ly = length-take-le 8 b lb in
    let fx = IsBytes-take 8 a fa in
    let fy = IsBytes-take 8 b fb in
    let there : o ≡ slice_cmp nat_cmp (take 8 a) (take 8 b) =
    sym eo ∙ ap (λ (k : ℕ). nat_cmp k n) (em ∙ ap (from_be_bytes w64) ex)
    ∙ ap (nat_cmp (from_be_bytes w64 (take 8 a))) (en ∙ ap (from_be_bytes w64) ey)
    ∙ eight_cmp (take 8 a) (take 8 b) fx fy lx ly in
    rw (exs, eys, there)
    (ap (λ (l : List ℕ). slice_cmp nat_cmp l b) (sym (take-append-drop 8 a))
    ∙ ap (slice_cmp nat_cmp (take 8 a ++ drop 8 a)) (sym (take-append-drop 8 b))
    ∙ cmp_parts (take 8 a) (take 8 b) (drop 8 a) (drop 8 b) (lx ∙ sym ly))

-- ---- texts of which the first bytes differ

pub first_less : (a b : List ℕ) → 0 < length a → 0 < length b
    → nat_cmp (slice_index a 0) (slice_index b 0) ≡ Less → Less ≡ slice_cmp nat_cmp a b
first_less [] b p q h = absurd (omega (arith, p))
first_less (x ∷ xs) [] p q h = absurd (omega (arith, q))
first_less (x ∷ xs) (y ∷ ys) p q h =
    ap (λ (o : Ordering). ordering_then o (slice_cmp nat_cmp xs ys)) (sym h)

pub first_greater : (a b : List ℕ) → 0 < length a → 0 < length b
    → nat_cmp (slice_index a 0) (slice_index b 0) ≡ Greater → Greater ≡ slice_cmp nat_cmp a b
first_greater [] b p q h = absurd (omega (arith, p))
first_greater (x ∷ xs) [] p q h = absurd (omega (arith, q))
first_greater (x ∷ xs) (y ∷ ys) p q h =
    ap (λ (o : Ordering). ordering_then o (slice_cmp nat_cmp xs ys)) (sym h)
