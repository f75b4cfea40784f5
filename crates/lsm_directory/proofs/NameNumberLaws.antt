-- Numbers in names.
use Rattle.std.proofs.Common.{
  ◌≡◌,
  ◌≢◌,
  ℕ,
  ◌-◌,
  ◌<◌,
  ◌^◌,
  List,
  [],
  ◌∷◌,
  ◌++◌,
  length,
  get_or,
  take,
  drop,
  sym,
  ap,
  ◌∙◌,
  subst,
  arith,
  Option,
  Some,
}
use Rattle.std.specs.Prelude.{Result, Ok, Err}
use Rattle.std.specs.Char.{digit_value}
use Rattle.std.specs.Str.Parse.{AllDigits, IsNumeral, ParsesUnsigned, digits_value}
use Rattle.std.proofs.lemmas.List.{append_cancel_left, append_cancel_right}
use Rattle.std.proofs.lemmas.Str.Parse.{
  IsNumeralModel,
  numerals_by_value,
  tells_digits,
  parse_gives,
  parse_plain,
}
use Rattle.lsm_directory.specs.FileNames.{IsDecimal, IsNumberBefore, IsNumberBehind}

own : IsNumeralModel (AllDigits 10) (digits_value 10)
own = numerals_by_value (AllDigits 10) tells_digits

-- a plus is no digit
pub plus_is_none : (ds : List ℕ) → IsNumeral 10 ds → get_or ds 0 0 ≡ 43 → ⊥
plus_is_none [] h e = absurd cc
plus_is_none (c ∷ cs) h e = let digit : digit_value 43 < 10 = subst (λ d. digit_value d < 10) e h.1.0 in absurd (omega arith)

pub number_only : {E : Type 0} (ds : List ℕ) (n : ℕ) (r : Result ℕ E) → get_or ds 0 0 ≢ 43 → ParsesUnsigned 64 10 ds r → r ≡ Ok n
    → IsNumeral 10 ds × (digits_value 10 ds ≡ n) × (n < 2 ^ 64)
number_only {E} ds n (Ok x) first h is =
    let k : (AllDigits 10 ds × (0 < length ds) × (digits_value 10 ds < 2 ^ 64)) × (x ≡ digits_value 10 ds) = parse_plain own {E = E} 64 ds (Ok x) h first in
    let same : x ≡ n = cc in
    let value : digits_value 10 ds ≡ n = sym k.1 ∙ same in
    ((k.0.1, k.0.0), value, subst (λ m. m < 2 ^ 64) value k.0.2)
number_only {E} ds n (Err e) first h is = absurd cc

pub number_found : {E : Type 0} (ds : List ℕ) (n : ℕ) (r : Result ℕ E) → ParsesUnsigned 64 10 ds r → IsNumeral 10 ds → digits_value 10 ds ≡ n → n < 2 ^ 64 → r ≡ Ok n
number_found ds n r h numeral value small =
    parse_gives own 64 ds r h numeral.1 numeral.0 (subst (λ m. m < 2 ^ 64) (sym value) small) ∙ ap (λ m. Ok m) value

pub number_before_found : (ending name digits : List ℕ) (k n : ℕ) (o : Option ℕ) → name ≡ take (length name - k) name ++ ending → digits ≡ take (length name - k) name
    → IsNumberBefore ending name n → (IsDecimal digits n → o ≡ Some n) → o ≡ Some n
number_before_found ending name digits k n o parts front (others, these, decimal) found =
    let same : others ≡ digits = append_cancel_right others digits ending (sym these ∙ (parts ∙ ap (λ (t : List ℕ). t ++ ending) (sym front))) in
    found (subst (λ (ds : List ℕ). IsDecimal ds n) same decimal)

pub number_behind_found : (beginning name digits : List ℕ) (k n : ℕ) (o : Option ℕ) → name ≡ beginning ++ drop k name → digits ≡ drop k name
    → IsNumberBehind beginning name n → (IsDecimal digits n → o ≡ Some n) → o ≡ Some n
number_behind_found beginning name digits k n o parts back (others, these, decimal) found =
    let same : others ≡ digits = append_cancel_left beginning others digits (sym these ∙ (parts ∙ ap (λ (t : List ℕ). beginning ++ t) (sym back))) in
    found (subst (λ (ds : List ℕ). IsDecimal ds n) same decimal)
