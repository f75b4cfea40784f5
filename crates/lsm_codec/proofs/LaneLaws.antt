-- Operations on vectors of 32 bytes, lane by lane.
use Rattle.std.proofs.Common.{◌≡◌, ℕ, zero, suc, ◌+◌, ◌*◌, ◌/◌, ◌%◌, ◌^◌, ◌<◌, List, [], ◌∷◌}
use Rattle.std.proofs.Common.{length, map, get_or, replicate}
use Rattle.std.proofs.Common.{bit_and, refl, sym, ap, ◌∙◌, arith, w8, Fits}
use Rattle.std.proofs.lemmas.List.{ext_get_or, get_or-map, length-map}
use Rattle.std.proofs.lemmas.Nat.{and_le_r, and_mask}
use Rattle.std.proofs.lemmas.Simd.{Each1-all, Each1-weaker, Each1-zip2, Each2-splat}
use Rattle.std.proofs.lemmas.Simd.{below_from_Fits, length-zip2, swz_l, SwzOk, SwzOk-from_below}
use Rattle.std.proofs.lemmas.Simd.{length-swz_l, get_or-swz_l_below, zip2_splat}
use Rattle.std.specs.Simd.Lanes.{zip2, Each1}

abbrev pub IsVector : List ℕ → Type 0
IsVector v = (length v ≡ 32) × Each1 (Fits w8) v

pub lane_fits : (v : List ℕ) (i : ℕ) → Each1 (Fits w8) v → get_or v i 0 < 256
lane_fits [] i h = omega arith
lane_fits (x ∷ xs) zero h = h.0.fits
lane_fits (x ∷ xs) (suc i) h = lane_fits xs i h.1

abbrev down : ℕ → ℕ → ℕ
down a b = a / 2 ^ b

pub low_ok : (v : List ℕ) → IsVector v → SwzOk w8 16 32 0 (zip2 bit_and v (replicate 32 15))
low_ok v fits =
    let small = Each1-all (λ a. bit_and a 15 < 16) (λ a. omega (arith, and_le_r a 15)) v in
    SwzOk-from_below w8 16 2 32 0 (zip2 bit_and v (replicate 32 15)) refl
    (omega (arith, length-zip2 bit_and v (replicate 32 15) fits.0))
    (Each1-zip2 bit_and (λ j. j < 16) v (replicate 32 15)
    (Each2-splat (λ a b. bit_and a b < 16) v 32 15 small))

pub high_ok : (v : List ℕ) → IsVector v → SwzOk w8 16 32 0 (zip2 down v (replicate 32 4))
high_ok v fits =
    let small =
    Each1-weaker (λ a. a < 256) (λ a. a / 16 < 16) (λ a h. omega arith) v
    (below_from_Fits w8 v fits.1) in
    SwzOk-from_below w8 16 2 32 0 (zip2 down v (replicate 32 4)) refl
    (omega (arith, length-zip2 down v (replicate 32 4) fits.0))
    (Each1-zip2 down (λ j. j < 16) v (replicate 32 4)
    (Each2-splat (λ a b. down a b < 16) v 32 4 small))

pub masked_low : (v : List ℕ) → length v ≡ 32
    → zip2 bit_and v (replicate 32 15) ≡ map (λ x. x % 16) v
masked_low v long =
    let masked = zip2_splat bit_and v 32 15 long in
    masked
    ∙ ext_get_or 0 _ _ (length-map v (λ x. bit_and x 15) ∙ sym (length-map v (λ x. x % 16)))
    (λ i h.
    let within : i < length v = omega (arith, length-map v (λ x. bit_and x 15)) in
    get_or-map (λ x. bit_and x 15) v i 0 0 within ∙ and_mask (get_or v i 0) 4
    ∙ sym (get_or-map (λ x. x % 16) v i 0 0 within))

-- a table that stands twice, read at places below 16
pub looked_up : (wide table : List ℕ) (g : ℕ → ℕ) (v js : List ℕ) → IsVector v → js ≡ map g v
    → ((x : ℕ) → x < 256 → g x < 16)
    → ((k : ℕ) → k < 32 → get_or wide k 0 ≡ get_or table (k % 16) 0)
    → swz_l w8 16 wide 0 js ≡ map (λ x. get_or table (g x) 0) v
looked_up wide table g v js fits e small twice =
    let long : length js ≡ 32 = ap length e ∙ length-map v g ∙ fits.0 in
    ext_get_or 0 _ _
    (length-swz_l w8 16 wide 0 js ∙ long
    ∙ sym (length-map v (λ x. get_or table (g x) 0) ∙ fits.0))
    (λ i h.
    let lt : i < 32 = omega (arith, length-swz_l w8 16 wide 0 js) in
    let within : i < length v = omega (arith, fits.0) in
    let is : get_or js i 0 ≡ g (get_or v i 0) =
    ap (λ l. get_or l i 0) e ∙ get_or-map g v i 0 0 within in
    let below : get_or js i 0 < 16 =
    omega (arith, small (get_or v i 0) (lane_fits v i fits.1)) in
    let at : (16 * ((0 + i) / 16) + get_or js i 0) % 16 ≡ get_or js i 0 = omega arith in
    get_or-swz_l_below w8 16 wide 0 js i (omega arith) below
    ∙ twice (16 * ((0 + i) / 16) + get_or js i 0) (omega arith)
    ∙ ap (λ k. get_or table k 0) (at ∙ is)
    ∙ sym (get_or-map (λ x. get_or table (g x) 0) v i 0 0 within))
