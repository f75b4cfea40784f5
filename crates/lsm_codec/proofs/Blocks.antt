-- Four and eight bytes at once.
use Rattle.std.proofs.Common.{◌≡◌, ℕ, ◌+◌, ◌*◌, ◌/◌, ◌%◌, ◌^◌, ◌<◌, List, [], ◌∷◌, length, get_or, bit_xor, bit_and, refl, sym, ap, ◌∙◌, arith}
use Rattle.std.specs.Int.{w32, from_le_bytes}
use Rattle.std.proofs.lemmas.Nat.{and_mask}
use Rattle.lsm_codec.specs.Crc.{register_after}
use Rattle.lsm_codec.specs.Turns.{turns}
use Rattle.lsm_codec.proofs.Shifts.{near, far, turns-xor, turns-turns, register_after-four, register_after-nil}

masks : (t u v w n : ℕ) (f : ℕ → ℕ → ℕ) → n < 2 ^ 32
    → bit_xor (bit_xor (bit_xor (f t (bit_and n 255)) (f u (bit_and (n / 256) 255))) (f v (bit_and (n / 65536) 255))) (f w (n / 16777216))
    ≡ bit_xor (bit_xor (bit_xor (f t (n % 256)) (f u (n / 256 % 256))) (f v (n / 256 / 256 % 256))) (f w (n / 256 / 256 / 256))
masks t u v w n f h =
    let a : bit_and n 255 ≡ n % 256 = and_mask n 8 in
    let b : bit_and (n / 256) 255 ≡ n / 256 % 256 = and_mask (n / 256) 8 in
    let c : bit_and (n / 65536) 255 ≡ n / 256 / 256 % 256 = and_mask (n / 65536) 8 ∙ omega arith in
    let d : n / 16777216 ≡ n / 256 / 256 / 256 = omega arith in
    rw (a, b, c, d) refl

pub near_masks : (n : ℕ) → n < 2 ^ 32
    → bit_xor (bit_xor (bit_xor (turns 32 (bit_and n 255)) (turns 24 (bit_and (n / 256) 255))) (turns 16 (bit_and (n / 65536) 255))) (turns 8 (n / 16777216)) ≡ turns 32 n
near_masks n h = masks 32 24 16 8 n turns h ∙ sym (near n h)

pub far_masks : (n : ℕ) → n < 2 ^ 32
    → bit_xor (bit_xor (bit_xor (turns 64 (bit_and n 255)) (turns 56 (bit_and (n / 256) 255))) (turns 48 (bit_and (n / 65536) 255))) (turns 40 (n / 16777216)) ≡ turns 64 n
far_masks n h = masks 64 56 48 40 n turns h ∙ sym (far n h)

pub eight : (register : ℕ) (xs : List ℕ) → length xs ≡ 8 → ((i : ℕ) → get_or xs i 0 < 256)
    → bit_xor (turns 64 (bit_xor register (from_le_bytes w32 (get_or xs 0 0 ∷ get_or xs 1 0 ∷ get_or xs 2 0 ∷ get_or xs 3 0 ∷ [])))) (turns 32 (from_le_bytes w32 (get_or xs 4 0 ∷ get_or xs 5 0 ∷ get_or xs 6 0 ∷ get_or xs 7 0 ∷ [])))
    ≡ register_after register xs
eight register (a ∷ b ∷ c ∷ d ∷ e ∷ f ∷ g ∷ h ∷ []) len fits =
    let first : a + b * 256 + c * 65536 + d * 16777216 ≡ a + (b + (c + d * 256) * 256) * 256 = omega arith in
    let second : e + f * 256 + g * 65536 + h * 16777216 ≡ e + (f + (g + h * 256) * 256) * 256 = omega arith in
    let far_part = turns 32 (bit_xor register (a + (b + (c + d * 256) * 256) * 256)) in
    rw (first, second)
    (sym (register_after-four register a b c d (e ∷ f ∷ g ∷ h ∷ []) (fits 0) (fits 1) (fits 2) (fits 3)
    ∙ register_after-four far_part e f g h [] (fits 4) (fits 5) (fits 6) (fits 7)
    ∙ register_after-nil (turns 32 (bit_xor far_part (e + (f + (g + h * 256) * 256) * 256)))
    ∙ turns-xor 32 far_part (e + (f + (g + h * 256) * 256) * 256)
    ∙ ap (λ (x : ℕ). bit_xor x (turns 32 (e + (f + (g + h * 256) * 256) * 256))) (turns-turns 32 32 (bit_xor register (a + (b + (c + d * 256) * 256) * 256)))))
eight register xs len fits = absurd (omega arith)
