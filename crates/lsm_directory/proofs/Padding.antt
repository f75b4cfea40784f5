-- Numbers with zeros in front.
use Rattle.std.proofs.Common.{◌≡◌, ℕ, ◌-◌, ◌^◌, List, [], ◌++◌, length, arith}
use Rattle.std.specs.Prelude.{false, replicate}
use Rattle.std.specs.Fmt.{padded_integral, format_spec, char_count}
use Rattle.std.proofs.lemmas.List.{append-nil}

short : (n : ℕ) → 6 - n - 0 - 0 ≡ 6 - n
short n = omega arith

-- what `{:06}` writes of digits
pub padded_integral_six : (ds : List ℕ) → padded_integral (format_spec 32 0 4 6 (2 ^ 64 - 1)) false [] ds ≡ replicate (6 - length ds) 48 ++ ds
unfolding padded_integral char_count
padded_integral_six ds = simp (append-nil, short)
