-- Scores over one denominator.
use Rattle.std.proofs.Common.{◌≡◌, ℕ, zero, suc, ◌*◌, ◌<◌, ◌≤◌, List, refl, sym, ◌∙◌, ap, subst, inl, inr, arith, zero-mul}
use Rattle.std.proofs.Math.Nat.{lt_of_mul-lt-mul_right, mul-lt-mul_of_pos_right, mul-mul-mul_comm, mul_comm}
use Rattle.std.proofs.lemmas.Bool.{cases_lt}
use Rattle.lsm_version.specs.Versions.{Levels}
use Rattle.lsm_picker.specs.Choice.{AreEqual, IsGreaterScore}
use Rattle.lsm_picker.specs.Reservations.{Reserved}
use Rattle.lsm_picker.specs.Scores.{limit, scale, score, weight}

-- ---- comparison

pub limit_scale : (l : ℕ) → l ≤ 5 → limit l * scale l ≡ 104857600000
limit_scale zero le = refl
limit_scale (suc zero) le = refl
limit_scale (suc (suc zero)) le = refl
limit_scale (suc (suc (suc zero))) le = refl
limit_scale (suc (suc (suc (suc zero)))) le = refl
limit_scale (suc (suc (suc (suc (suc zero))))) le = refl
limit_scale (suc (suc (suc (suc (suc (suc n)))))) le = absurd (omega arith)

pub scale_positive : (l : ℕ) → l ≤ 5 → 0 < scale l
scale_positive zero le = omega arith
scale_positive (suc zero) le = omega arith
scale_positive (suc (suc zero)) le = omega arith
scale_positive (suc (suc (suc zero))) le = omega arith
scale_positive (suc (suc (suc (suc zero)))) le = omega arith
scale_positive (suc (suc (suc (suc (suc zero))))) le = omega arith
scale_positive (suc (suc (suc (suc (suc (suc n)))))) le = absurd (omega arith)

positive : (m k : ℕ) → 0 < m → 0 < k → 0 < m * k
positive m k mp kp = subst (λ (n : ℕ). n < m * k) (zero-mul k) (mul-lt-mul_of_pos_right mp kp)

-- of a product of two fractions' parts
crossed : (x q k m c : ℕ) → q * m ≡ c → (x * q) * (m * k) ≡ (x * k) * c
crossed x q k m c e =
    ap (λ n. (x * q) * n) (mul_comm m k) ∙ mul-mul-mul_comm x q k m ∙ ap (λ n. (x * k) * n) e

-- fractions over p and q, where p * k and q * m are one number, are compared as their parts of it
parts_less : (x y p q k m c : ℕ) → p * k ≡ c → q * m ≡ c → 0 < k → 0 < m → y * p < x * q → y * m < x * k
parts_less x y p q k m c e f kp mp h =
    let pos : 0 < m * k = positive m k mp kp in
    let scaled : (y * p) * (m * k) < (x * q) * (m * k) = mul-lt-mul_of_pos_right h pos in
    let left : (y * p) * (m * k) ≡ (y * m) * c = ap (λ n. (y * p) * n) (mul_comm m k) ∙ crossed y p m k c e in
    let right : (x * q) * (m * k) ≡ (x * k) * c = crossed x q k m c f in
    lt_of_mul-lt-mul_right c (subst (λ (n : ℕ). (y * m) * c < n) right (subst (λ (n : ℕ). n < (x * q) * (m * k)) left scaled))

pub greater_weight : (v : Levels) (rs : List Reserved) (l m : ℕ) → l ≤ 5 → m ≤ 5 → IsGreaterScore (score v rs l) (score v rs m) → weight v rs m < weight v rs l
greater_weight v rs l m low high h =
    parts_less (score v rs l).0 (score v rs m).0 (limit l) (limit m) (scale l) (scale m) 104857600000 (limit_scale l low) (limit_scale m high) (scale_positive l low) (scale_positive m high) h

pub equal_weight : (v : Levels) (rs : List Reserved) (l m : ℕ) → l ≤ 5 → m ≤ 5 → AreEqual (score v rs l) (score v rs m) → weight v rs l ≡ weight v rs m
equal_weight v rs l m low high h = elim (cases_lt (weight v rs l) (weight v rs m)) [
  | inl less ↦ absurd (unequal m l high low (sym h) less)
  | inr more ↦ elim (cases_lt (weight v rs m) (weight v rs l)) [
    | inl less ↦ absurd (unequal l m low high h less)
    | inr least ↦ omega arith
  ]
]
  where
    scaled : (a b : ℕ) → a ≤ 5 → b ≤ 5 → AreEqual (score v rs a) (score v rs b) → weight v rs a * 104857600000 ≡ weight v rs b * 104857600000
    scaled a b la lb e =
        let x = (score v rs a).0 in
        let y = (score v rs b).0 in
        sym (crossed x (limit b) (scale a) (scale b) 104857600000 (limit_scale b lb)) ∙ ap (λ n. n * (scale b * scale a)) e
        ∙ ap (λ n. (y * limit a) * n) (mul_comm (scale b) (scale a)) ∙ crossed y (limit a) (scale b) (scale a) 104857600000 (limit_scale a la)

    unequal : (a b : ℕ) → a ≤ 5 → b ≤ 5 → AreEqual (score v rs a) (score v rs b) → weight v rs b < weight v rs a → ⊥
    unequal a b la lb e less = (let s = scaled a b la lb e in omega arith)

-- a level that is due has a weight
pub due_weight : (v : Levels) (rs : List Reserved) (l : ℕ) → l ≤ 5 → limit l ≤ (score v rs l).0 → 0 < weight v rs l
due_weight v rs l low due =
    let p = scale_positive l low in
    let x : 0 < (score v rs l).0 = at l low due in
    positive (score v rs l).0 (scale l) x p
  where
    at : (l : ℕ) → l ≤ 5 → limit l ≤ (score v rs l).0 → 0 < (score v rs l).0
    at zero le d = omega arith
    at (suc zero) le d = omega arith
    at (suc (suc zero)) le d = omega arith
    at (suc (suc (suc zero))) le d = omega arith
    at (suc (suc (suc (suc zero)))) le d = omega arith
    at (suc (suc (suc (suc (suc zero))))) le d = omega arith
    at (suc (suc (suc (suc (suc (suc n)))))) le d = absurd (omega arith)
