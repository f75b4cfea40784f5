-- Numbers in groups of seven bits (the varints of LevelDB's `util/coding.h`).
use Rattle.std.specs.Prelude.{◌≡◌, ℕ, zero, suc, ◌+◌, ◌-◌, ◌*◌, ◌/◌, ◌%◌, ◌^◌, ◌<◌, ◌≤◌, ◌⊎◌, List}
use Rattle.std.specs.Prelude.{[], ◌∷◌, length, take, drop, Result, Ok, Err, IfOk, IfErr, ◌↔◌}
use Rattle.std.specs.Prelude.{nat_lt, nat_le, if◌then◌else◌}
use Rattle.std.specs.List.{AllByRecursion}
use Rattle.lsm_codec.specs.declared.fault.CodecFault.{CodecFault}
use Rattle.lsm_codec.specs.declared.fault.CodecFault.TheVariants.{Cut, TooBig}

-- seven bits a byte, the high bit set on each byte but the last
abbrev pub AreGroups : List ℕ → Type 0
AreGroups [] = ⊥
AreGroups (b ∷ []) = b < 128
AreGroups (b ∷ c ∷ bs) = (128 ≤ b) × (b < 256) × AreGroups (c ∷ bs)

-- the sum of group i times 2 ^ (7 * i)
abbrev pub value_of : List ℕ → ℕ
value_of [] = 0
value_of (b ∷ bs) = b % 128 + 128 * value_of bs

-- at most this many bytes spell the number, which is at most max
pub record IsVarint (most max : ℕ) (bytes : List ℕ) (n : ℕ) : Type 0 where
  pub groups : AreGroups bytes
  pub short : length bytes ≤ most
  pub value : value_of bytes ≡ n
  pub fits : n ≤ max

abbrev pub IsVarint32 : List ℕ → ℕ → Type 0
IsVarint32 = IsVarint 5 (2 ^ 32 - 1)

abbrev pub IsVarint64 : List ℕ → ℕ → Type 0
IsVarint64 = IsVarint 10 (2 ^ 64 - 1)

-- The input ends within the groups of a number.
pub record IsCut (most : ℕ) (bytes : List ℕ) : Type 0 where
  pub short : length bytes < most
  pub open_ended : AllByRecursion (λ b. 128 ≤ b) bytes

-- No byte within the bound ends the number.
pub record IsEndless (most : ℕ) (bytes : List ℕ) : Type 0 where
  pub long : most ≤ length bytes
  pub open_ended : AllByRecursion (λ b. 128 ≤ b) (take most bytes)

-- Groups within the bound stand at the front, and what they spell is above max.
pub record IsOver (most max : ℕ) (bytes : List ℕ) : Type 0 where
  pub len : ℕ
  pub here : len ≤ length bytes
  pub short : len ≤ most
  pub groups : AreGroups (take len bytes)
  pub over : max < value_of (take len bytes)

-- A number that is spelled too long, or is too big. To refuse the second is this project's rule:
-- LevelDB drops the bits in excess, and never writes them.
abbrev pub IsTooBig : ℕ → ℕ → List ℕ → Type 0
IsTooBig most max bytes = IsEndless most bytes ⊎ IsOver most max bytes

-- What a reader of a number answers: Ok exactly where a front of the bytes spells one, with it and
-- its length, and each refusal exactly where it is due.
pub record GetsVarint (most max : ℕ) (bytes : List ℕ) (result : Result (ℕ × ℕ) CodecFault)
    : Type 0 where
  pub found : IfOk result (λ r. (r.1 ≤ length bytes) × IsVarint most max (take r.1 bytes) r.0)
  pub only : (len n : ℕ) → len ≤ length bytes → IsVarint most max (take len bytes) n
      → result ≡ Ok (n, len)
  pub cut : result ≡ Err Cut ↔ IsCut most bytes
  pub too_big : result ≡ Err TooBig ↔ IsTooBig most max bytes
  pub fault : IfErr result (λ e. (e ≡ Cut) ⊎ (e ≡ TooBig))

-- a group in front of the number that its further groups give
abbrev pub with_low : ℕ → ℕ → Result (ℕ × List ℕ) CodecFault → Result (ℕ × List ℕ) CodecFault
with_low max low (Ok high) = if nat_le (low + 128 * high.0) max then Ok (low + 128 * high.0, high.1)
    else Err TooBig
with_low max low (Err e) = Err e

-- the number at the front, and what follows it
unfoldable pub varint_at : ℕ → ℕ → List ℕ → Result (ℕ × List ℕ) CodecFault
varint_at zero max bytes = Err TooBig
varint_at (suc most) max [] = Err Cut
varint_at (suc most) max (b ∷ bs) =
    if nat_lt b 128 then Ok (b, bs) else with_low max (b % 128) (varint_at most max bs)

abbrev pub varint32_at : List ℕ → Result (ℕ × List ℕ) CodecFault
varint32_at bytes = varint_at 5 (2 ^ 32 - 1) bytes

abbrev pub varint64_at : List ℕ → Result (ℕ × List ℕ) CodecFault
varint64_at bytes = varint_at 10 (2 ^ 64 - 1) bytes

-- the shortest spelling
unfoldable pub shortest : ℕ → ℕ → List ℕ
shortest zero n = []
shortest (suc most) n = if nat_lt n 128 then n ∷ [] else (n % 128 + 128) ∷ shortest most (n / 128)

abbrev pub varint32 : ℕ → List ℕ
varint32 n = shortest 5 n

abbrev pub varint64 : ℕ → List ℕ
varint64 n = shortest 10 n

-- what a reader returned, beside the number at the front and what follows it
abbrev pub Reads : List ℕ → Result (ℕ × ℕ) CodecFault → Result (ℕ × List ℕ) CodecFault → Type 0
Reads bytes (Ok r) read = (read ≡ Ok (r.0, drop r.1 bytes)) × (r.1 ≤ length bytes)
Reads bytes (Err e) read = read ≡ Err e

-- The bytes spell the number, and no fewer do.
pub record IsShortest (most max : ℕ) (bytes : List ℕ) (n : ℕ) : Type 0 where
  pub is : IsVarint most max bytes n
  pub least : (other : List ℕ) → IsVarint most max other n → length bytes ≤ length other
