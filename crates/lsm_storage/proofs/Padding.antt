-- Numbers with zeros in front.
use Rattle.std.proofs.Common.{◌≡◌, ℕ, ◌-◌, ◌<◌, ◌≤◌, List, [], ◌∷◌, ◌++◌, length, refl, sym, subst, ap, ◌∙◌, arith, ◌^◌, rules, length-append, zero, suc}
use Rattle.std.specs.Prelude.{decimal, false, replicate, Result, Ok, codes}
use Rattle.std.specs.Fmt.{padded_integral, format_spec, char_count}
use Rattle.std.specs.Str.{IsAscii}
use Rattle.std.specs.Str.Parse.{AllDigits, digits_value, ParsesUnsigned}
use Rattle.std.proofs.lemmas.Fmt.{decimal_is_IsNumeral, decimal_nonempty, IsAscii-from_digits, length-decimal-le}
use Rattle.std.proofs.lemmas.List.{append-nil, length-replicate}
use Rattle.std.proofs.lemmas.Str.Parse.{IsNumeralModel, numerals_by_value, tells_digits, parse_gives}
use Rattle.std.proofs.lemmas.Str.{IsAscii-append}
use Rattle.std.proofs.lemmas.Str.Ascii.{IsAscii-nil, IsAscii-cons, IsAscii-from_all}
use Rattle.lsm_storage.specs.FileNames.{padded, manifest_name, current_text, longest_current}

short : (n : ℕ) → 6 - n - 0 - 0 ≡ 6 - n
short n = omega arith

-- what `{:06}` writes of digits
pub padded_integral-six : (ds : List ℕ) → padded_integral (format_spec 32 0 4 6 (2 ^ 64 - 1)) false [] ds ≡ replicate (6 - length ds) 48 ++ ds
unfolding padded_integral char_count
padded_integral-six ds = simp (append-nil, short)

all_digits-zeros : (k : ℕ) (ds : List ℕ) → AllDigits 10 ds → AllDigits 10 (replicate k 48 ++ ds)
all_digits-zeros zero ds h = h
all_digits-zeros (suc k) ds h = (omega arith, all_digits-zeros k ds h)

digits_value-zeros : (k : ℕ) (ds : List ℕ) → digits_value 10 (replicate k 48 ++ ds) ≡ digits_value 10 ds
digits_value-zeros zero ds = refl
digits_value-zeros (suc k) ds = digits_value-zeros k ds

pub all_digits-padded : (n : ℕ) → n < 2 ^ 64 → AllDigits 10 (padded n)
all_digits-padded n small = all_digits-zeros (6 - length (decimal n)) (decimal n) (decimal_is_IsNumeral n small).0.1

digits_value-padded : (n : ℕ) → n < 2 ^ 64 → digits_value 10 (padded n) ≡ n
digits_value-padded n small = digits_value-zeros (6 - length (decimal n)) (decimal n) ∙ (decimal_is_IsNumeral n small).1

own : IsNumeralModel (AllDigits 10) (digits_value 10)
own = numerals_by_value (AllDigits 10) tells_digits

-- the digits of a number are read as that number
pub parse-padded : {E : Type 0} (n : ℕ) (r : Result ℕ E) → n < 2 ^ 64 → ParsesUnsigned 64 10 (padded n) r → r ≡ Ok n
parse-padded n r small h =
    let value = digits_value-padded n small in
    let some : 0 < length (padded n) = omega (arith, length-append (replicate (6 - length (decimal n)) 48) (decimal n), decimal_nonempty n small) in
    parse_gives own 64 (padded n) r h (all_digits-padded n small) some (omega arith) ∙ ap (λ m. Ok m) value

-- what `CURRENT` holds is text
pub current_text-is_ascii : (n : ℕ) → n < 2 ^ 64 → IsAscii (current_text n)
current_text-is_ascii n small =
    IsAscii-append (manifest_name n) (10 ∷ []) (IsAscii-append (codes "MANIFEST-") (padded n)
    (IsAscii-from_all (codes "MANIFEST-") (search rules)) (IsAscii-from_digits (padded n) (all_digits-padded n small)))
    (IsAscii-cons 10 [] (omega arith) IsAscii-nil)

-- no number has more than 20 digits
pub length-current_text : (n : ℕ) → n < 2 ^ 64 → length (current_text n) ≤ longest_current
length-current_text n small =
    let zeros : length (replicate (6 - length (decimal n)) 48) ≡ 6 - length (decimal n) = length-replicate {A = ℕ} (6 - length (decimal n)) 48 in
    let digits : length (decimal n) ≤ 20 = length-decimal-le 20 n (omega arith) (omega arith) small in
    omega (arith, length-append (manifest_name n) (10 ∷ []), length-append (codes "MANIFEST-") (padded n), length-append (replicate (6 - length (decimal n)) 48) (decimal n), zeros, digits)

pub length-is_current : (n : ℕ) (bytes : List ℕ) → n < 2 ^ 64 → bytes ≡ current_text n → length bytes ≤ longest_current
length-is_current n bytes small is = subst (λ (b : List ℕ). length b ≤ longest_current) (sym is) (length-current_text n small)
