-- The parts of an internal key.
use Rattle.std.proofs.Common.{◌≡◌, ℕ, ◌+◌, ◌*◌, ◌/◌, ◌%◌, ◌^◌, ◌<◌, List, [], ◌∷◌, ◌++◌, length, get_or, refl, sym, ap, ◌∙◌, arith}
use Rattle.std.specs.Int.{w64, from_le_bytes, to_le_bytes}
use Rattle.std.proofs.lemmas.Nat.{le_bytes_8}
use Rattle.lsm_codec.specs.declared.kind.Kind.{Kind}
use Rattle.lsm_codec.specs.Keys.{IsKey, kind_number}

abbrev pub eight : List ℕ → List ℕ
eight t = get_or t 0 0 ∷ get_or t 1 0 ∷ get_or t 2 0 ∷ get_or t 3 0 ∷ get_or t 4 0 ∷ get_or t 5 0 ∷ get_or t 6 0 ∷ get_or t 7 0 ∷ []

low_byte : (t : List ℕ) (n : ℕ) → ((i : ℕ) → get_or t i 0 < 256) → n ≡ from_le_bytes w64 (eight t) → n % 256 ≡ get_or t 0 0
low_byte t n fits e = omega (arith, fits 0)

pub eight_is : (t : List ℕ) → length t ≡ 8 → eight t ≡ t
eight_is (a ∷ b ∷ c ∷ d ∷ e ∷ f ∷ g ∷ h ∷ []) len = refl
eight_is t len = absurd (omega arith)

pub is_key : (bytes user tail : List ℕ) (n : ℕ) (kind : Kind) → bytes ≡ user ++ tail → length tail ≡ 8 → ((i : ℕ) → get_or tail i 0 < 256) → n < 2 ^ 64
    → n ≡ from_le_bytes w64 (eight tail) → kind_number kind ≡ get_or tail 0 0 → IsKey bytes record { user = user; seq = n / 256; kind = kind }
is_key bytes user tail n kind parts len fits below is kind_is =
    let low = low_byte tail n fits is in
    let whole : n / 256 * 256 + kind_number kind ≡ n = omega (arith, low, kind_is) in
    let back : to_le_bytes w64 n ≡ tail = le_bytes_8 tail n len fits (is ∙ ap (from_le_bytes w64) (eight_is tail len)) in
    record {
      bytes_are = parts ∙ ap (λ (x : List ℕ). user ++ x) (sym (ap (to_le_bytes w64) whole ∙ back));
      fits = omega (arith, below);
    }
