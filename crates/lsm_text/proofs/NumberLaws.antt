-- Decimal digits, read one after another.
use Rattle.std.proofs.Common.{◌≡◌, ℕ, ◌+◌, ◌-◌, ◌*◌, ◌^◌, ◌≤◌, List, [], ◌∷◌, length, get_or, Option, Some, None, arith}
use Rattle.std.specs.Prelude.{IfNone}
use Rattle.std.proofs.lemmas.Str.{digit_value_digit}
use Rattle.std.proofs.lemmas.Str.Parse.{digit_from_value}
use Rattle.std.specs.Str.Parse.{AllDigits, digits_value_after}
use Rattle.std.specs.Char.{digit_value}

pub value_is : (c : ℕ) → 48 ≤ c → c ≤ 57 → digit_value c ≡ c - 48
value_is c low high = let e = digit_value_digit c (low, high) in omega (arith, e)

pub value-grows : (n : ℕ) (ds : List ℕ) → n ≤ digits_value_after 10 n ds
value-grows n [] = omega arith
value-grows n (c ∷ cs) = let later = value-grows (n * 10 + digit_value c) cs in omega (arith, later)

-- the first digit makes it too large
pub too_large : (n : ℕ) (ds : List ℕ) → 1 ≤ length ds → 2 ^ 64 ≤ n * 10 + (get_or ds 0 0 - 48) → AllDigits 10 ds → 2 ^ 64 ≤ digits_value_after 10 n ds
too_large n [] some large all = absurd (omega (arith, some))
too_large n (c ∷ cs) some large all =
    let range = digit_from_value c all.0 in
    let is = value_is c range.0 range.1 in
    let grown = value-grows (n * 10 + digit_value c) cs in
    omega (arith, is, grown, large)

pub if_none : (r : Option ℕ) (P : Type 0) → P → IfNone r P
if_none None P p = p
if_none (Some v) P p = tt
