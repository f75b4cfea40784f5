-- Words for numbers: this project's rule.
use Rattle.std.specs.Prelude.{◌≡◌, ℕ, ◌≤◌, List}
use Rattle.std.specs.Str.Parse.{IsNumeral, digits_value}

-- The word is decimal digits, which write a number that is not above `most`. Zeros may stand in
-- front, a sign may not.
pub record IsNumberWord (most : ℕ) (word : List ℕ) (n : ℕ) : Type 0 where
  pub digits : IsNumeral 10 word
  pub value : digits_value 10 word ≡ n
  pub fits : n ≤ most
