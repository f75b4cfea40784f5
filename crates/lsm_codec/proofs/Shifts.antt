-- The division by whole bytes.
use Rattle.std.proofs.Common.{◌≡◌, ℕ, zero, suc, ◌+◌, ◌-◌, ◌*◌, ◌/◌, ◌%◌, ◌^◌, ◌<◌, ◌⊎◌, List, [], ◌∷◌, ◌++◌, bit_xor, bit_and, refl, sym, ap, ◌∙◌, subst, arith, inl, inr}
use Rattle.std.specs.List.{flat_map}
use Rattle.std.proofs.lemmas.Grind.{flat_map-append}
use lib.Bits.{xor_assoc, xor_zero_r, xor_shifted}
use Rattle.std.proofs.Math.Nat.{pow-suc, mul_assoc}
use Rattle.std.proofs.lemmas.Nat.{and_mask, xor_lt, xor_shr, xor_mod, xor_comm}
use Rattle.lsm_codec.specs.Turns.{shift, turns}
use Rattle.lsm_codec.specs.Crc.{castagnoli, low_bits, inverted, divide_bit, divide, register_after, crc_of, crc_after}

is_bit : (n : ℕ) → n < 2 → (n ≡ 0) ⊎ (n ≡ 1)
is_bit zero h = inl refl
is_bit (suc zero) h = inr refl
is_bit (suc (suc n)) h = absurd (omega arith)

-- two pairs, crosswise
pub xor_cross : (a b c d : ℕ) → bit_xor (bit_xor a b) (bit_xor c d) ≡ bit_xor (bit_xor a c) (bit_xor b d)
xor_cross a b c d =
    xor_assoc a b (bit_xor c d)
    ∙ ap (λ (x : ℕ). bit_xor a x) (sym (xor_assoc b c d) ∙ ap (λ (x : ℕ). bit_xor x d) (xor_comm b c) ∙ xor_assoc c b d)
    ∙ sym (xor_assoc a c (bit_xor b d))

times_xor : (x y : ℕ) → x < 2 → y < 2 → castagnoli * bit_xor x y ≡ bit_xor (castagnoli * x) (castagnoli * y)
times_xor zero zero p q = refl
times_xor zero (suc zero) p q = refl
times_xor (suc zero) zero p q = refl
times_xor (suc zero) (suc zero) p q = refl
times_xor zero (suc (suc y)) p q = absurd (omega arith)
times_xor (suc zero) (suc (suc y)) p q = absurd (omega arith)
times_xor (suc (suc x)) y p q = absurd (omega arith)

pub shift-xor : (a b : ℕ) → shift (bit_xor a b) ≡ bit_xor (shift a) (shift b)
unfolding shift
shift-xor a b =
    let half : bit_xor a b / 2 ≡ bit_xor (a / 2) (b / 2) = xor_shr a b 1 in
    let low : bit_xor a b % 2 ≡ bit_xor (a % 2) (b % 2) = xor_mod a b 1 in
    let both : castagnoli * (bit_xor a b % 2) ≡ bit_xor (castagnoli * (a % 2)) (castagnoli * (b % 2)) = ap (λ (x : ℕ). castagnoli * x) low ∙ times_xor (a % 2) (b % 2) (omega arith) (omega arith) in
    rw (half, both) (xor_cross (a / 2) (b / 2) (castagnoli * (a % 2)) (castagnoli * (b % 2)))

pub turns-xor : (count a b : ℕ) → turns count (bit_xor a b) ≡ bit_xor (turns count a) (turns count b)
unfolding turns
turns-xor zero a b = refl
turns-xor (suc count) a b = ap (turns count) (shift-xor a b) ∙ turns-xor count (shift a) (shift b)

pub turns-turns : (m n x : ℕ) → turns m (turns n x) ≡ turns (n + m) x
unfolding turns
turns-turns m zero x =
    let k : m ≡ 0 + m = omega arith in
    ap (λ (j : ℕ). turns j x) k
turns-turns m (suc n) x =
    let k : suc n + m ≡ suc (n + m) = omega arith in
    turns-turns m n (shift x) ∙ ap (λ (j : ℕ). turns j x) (sym k)

-- what an even number is shifted to
shift-twice : (n : ℕ) → shift (n * 2) ≡ n
unfolding shift
shift-twice n =
    let half : n * 2 / 2 ≡ n = omega arith in
    let low : n * 2 % 2 ≡ 0 = omega arith in
    rw (half, low) (xor_zero_r n)

pub turns-shifted : (count n : ℕ) → turns count (n * 2 ^ count) ≡ n
unfolding turns
turns-shifted zero n = omega arith
turns-shifted (suc count) n =
    let e : n * 2 ^ suc count ≡ n * 2 ^ count * 2 = ap (λ (x : ℕ). n * x) (pow-suc 2 count) ∙ sym (mul_assoc n (2 ^ count) 2) in
    ap (turns (suc count)) e ∙ ap (turns count) (shift-twice (n * 2 ^ count)) ∙ turns-shifted count n

-- a bit that comes in is a bit of the register turned
divide_bit-xor : (n bit : ℕ) → bit < 2 → divide_bit n bit ≡ shift (bit_xor n bit)
unfolding divide_bit shift
divide_bit-xor n zero h =
    let same : bit_xor n 0 ≡ n = xor_zero_r n in
    let plus : n + 0 ≡ n = omega arith in
    rw (same, plus) refl
divide_bit-xor n (suc zero) h =
    let half : bit_xor n 1 / 2 ≡ n / 2 = xor_shr n 1 1 ∙ xor_zero_r (n / 2) in
    let low : bit_xor n 1 % 2 ≡ bit_xor (n % 2) 1 = xor_mod n 1 1 in
    let turned : bit_xor (n % 2) 1 ≡ (n + 1) % 2 = elim (is_bit (n % 2) (omega arith)) [
      | inl e ↦ rw e (omega arith)
      | inr e ↦ rw e (omega arith)
    ] in
    rw (half, low, turned) refl
divide_bit-xor n (suc (suc b)) h = absurd (omega arith)

pub divide-low_bits : (count register n : ℕ) → n < 2 ^ count → divide register (low_bits count n) ≡ turns count (bit_xor register n)
unfolding divide low_bits turns
divide-low_bits zero register n h =
    let none : n ≡ 0 = omega arith in
    rw none (sym (xor_zero_r register))
divide-low_bits (suc count) register n h =
    let below : n / 2 < 2 ^ count = let p : n < 2 ^ count * 2 = subst (λ (x : ℕ). n < x) (pow-suc 2 count) h in omega arith in
    let low = n % 2 in
    let high = n / 2 in
    let first : divide_bit register low ≡ shift (bit_xor register low) = divide_bit-xor register low (omega arith) in
    let parts : bit_xor (high * 2) low ≡ n = xor_shifted high 1 low (omega arith) ∙ omega arith in
    let whole : bit_xor (bit_xor register low) (high * 2) ≡ bit_xor register n = xor_assoc register low (high * 2) ∙ ap (λ (x : ℕ). bit_xor register x) (xor_comm low (high * 2) ∙ parts) in
    let second : bit_xor (shift (bit_xor register low)) high ≡ shift (bit_xor register n) =
    ap (λ (x : ℕ). bit_xor (shift (bit_xor register low)) x) (sym (shift-twice high)) ∙ sym (shift-xor (bit_xor register low) (high * 2)) ∙ ap shift whole in
    divide-low_bits count (divide_bit register low) high below
    ∙ ap (λ (x : ℕ). turns count (bit_xor x high)) first
    ∙ ap (turns count) second

-- eight turns take the low byte by itself
pub turns-byte : (n : ℕ) → turns 8 n ≡ bit_xor (turns 8 (n % 256)) (n / 256)
turns-byte n =
    let parts : bit_xor (n / 256 * 2 ^ 8) (n % 256) ≡ n = xor_shifted (n / 256) 8 (n % 256) (omega arith) ∙ omega arith in
    ap (turns 8) (sym parts) ∙ turns-xor 8 (n / 256 * 2 ^ 8) (n % 256)
    ∙ ap (λ (x : ℕ). bit_xor x (turns 8 (n % 256))) (turns-shifted 8 (n / 256))
    ∙ xor_comm (n / 256) (turns 8 (n % 256))

pub divide-append : (xs ys : List ℕ) (register : ℕ) → divide register (xs ++ ys) ≡ divide (divide register xs) ys
unfolding divide
divide-append [] ys register = refl
divide-append (x ∷ xs) ys register = divide-append xs ys (divide_bit register x)

pub register_after-cons : (register byte : ℕ) (bytes : List ℕ) → byte < 256 → register_after register (byte ∷ bytes) ≡ register_after (turns 8 (bit_xor register byte)) bytes
unfolding register_after
register_after-cons register byte bytes h =
    divide-append (low_bits 8 byte) (flat_map (low_bits 8) bytes) register
    ∙ ap (λ (x : ℕ). divide x (flat_map (low_bits 8) bytes)) (divide-low_bits 8 register byte h)

pub register_after-nil : (register : ℕ) → register_after register [] ≡ register
unfolding register_after divide
register_after-nil register = refl

pub register_after-append : (xs ys : List ℕ) (register : ℕ) → register_after register (xs ++ ys) ≡ register_after (register_after register xs) ys
unfolding register_after
register_after-append xs ys register =
    ap (divide register) (flat_map-append (low_bits 8) xs ys) ∙ divide-append (flat_map (low_bits 8) xs) (flat_map (low_bits 8) ys) register

pub byte_step : (register byte : ℕ) → byte < 256 → bit_xor (turns 8 (bit_and (bit_xor register byte) 255)) (register / 256) ≡ turns 8 (bit_xor register byte)
byte_step register byte h =
    let mask : bit_and (bit_xor register byte) 255 ≡ bit_xor register byte % 256 = and_mask (bit_xor register byte) 8 in
    let none : byte / 256 ≡ 0 = omega arith in
    let high : bit_xor register byte / 256 ≡ register / 256 = xor_shr register byte 8 ∙ ap (λ (x : ℕ). bit_xor (register / 256) x) none ∙ xor_zero_r (register / 256) in
    ap (λ (x : ℕ). bit_xor (turns 8 x) (register / 256)) mask
    ∙ ap (λ (x : ℕ). bit_xor (turns 8 (bit_xor register byte % 256)) x) (sym high)
    ∙ sym (turns-byte (bit_xor register byte))

-- one byte on
pub register_after-one : (register byte : ℕ) → byte < 256 → register_after register (byte ∷ []) ≡ turns 8 (bit_xor register byte)
register_after-one register byte h = register_after-cons register byte [] h ∙ register_after-nil (turns 8 (bit_xor register byte))

divide_bit-below : (register bit : ℕ) → register < 2 ^ 32 → divide_bit register bit < 2 ^ 32
unfolding divide_bit
divide_bit-below register bit h = xor_lt 32 (register / 2) (castagnoli * ((register + bit) % 2)) (omega arith) (omega arith)

divide-below : (bits : List ℕ) (register : ℕ) → register < 2 ^ 32 → divide register bits < 2 ^ 32
unfolding divide
divide-below [] register h = h
divide-below (bit ∷ bits) register h = divide-below bits (divide_bit register bit) (divide_bit-below register bit h)

pub crc_after-crc : (front bytes : List ℕ) → crc_after (crc_of front) bytes ≡ crc_of (front ++ bytes)
unfolding crc_of crc_after register_after
crc_after-crc front bytes =
    let below : register_after (2 ^ 32 - 1) front < 2 ^ 32 = divide-below (flat_map (low_bits 8) front) (2 ^ 32 - 1) (omega arith) in
    let back : inverted (inverted (register_after (2 ^ 32 - 1) front)) ≡ register_after (2 ^ 32 - 1) front = omega arith in
    ap (λ (x : ℕ). inverted (register_after x bytes)) back ∙ ap inverted (sym (register_after-append front bytes (2 ^ 32 - 1)))

-- ---- many bytes at once

pub turns-zero : (count : ℕ) → turns count 0 ≡ 0
turns-zero count =
    let e : 0 * 2 ^ count ≡ 0 = omega arith in
    ap (turns count) (sym e) ∙ turns-shifted count 0

-- the low byte by itself, and the bytes above it
pub turns-split : (count n : ℕ) → turns (8 + count) n ≡ bit_xor (turns (8 + count) (n % 256)) (turns count (n / 256))
turns-split count n =
    sym (turns-turns count 8 n) ∙ ap (turns count) (turns-byte n) ∙ turns-xor count (turns 8 (n % 256)) (n / 256)
    ∙ ap (λ (x : ℕ). bit_xor x (turns count (n / 256))) (turns-turns count 8 (n % 256))

-- a byte that comes in, and bytes that come after it
pub turns-more : (count register byte more : ℕ) → byte < 256 → turns count (bit_xor (turns 8 (bit_xor register byte)) more) ≡ turns (8 + count) (bit_xor register (byte + more * 256))
turns-more count register byte more h =
    let parts : bit_xor byte (more * 2 ^ 8) ≡ byte + more * 256 = xor_comm byte (more * 2 ^ 8) ∙ xor_shifted more 8 byte h ∙ omega arith in
    let joined : bit_xor (bit_xor register byte) (more * 2 ^ 8) ≡ bit_xor register (byte + more * 256) = xor_assoc register byte (more * 2 ^ 8) ∙ ap (bit_xor register) parts in
    ap (λ (x : ℕ). turns count (bit_xor (turns 8 (bit_xor register byte)) x)) (sym (turns-shifted 8 more))
    ∙ ap (turns count) (sym (turns-xor 8 (bit_xor register byte) (more * 2 ^ 8)) ∙ ap (turns 8) joined)
    ∙ turns-turns count 8 (bit_xor register (byte + more * 256))

pub register_after-four : (register a b c d : ℕ) (rest : List ℕ) → a < 256 → b < 256 → c < 256 → d < 256
    → register_after register (a ∷ b ∷ c ∷ d ∷ rest) ≡ register_after (turns 32 (bit_xor register (a + (b + (c + d * 256) * 256) * 256))) rest
register_after-four register a b c d rest ha hb hc hd =
    register_after-cons register a (b ∷ c ∷ d ∷ rest) ha
    ∙ register_after-cons (turns 8 (bit_xor register a)) b (c ∷ d ∷ rest) hb
    ∙ register_after-cons (turns 8 (bit_xor (turns 8 (bit_xor register a)) b)) c (d ∷ rest) hc
    ∙ register_after-cons (turns 8 (bit_xor (turns 8 (bit_xor (turns 8 (bit_xor register a)) b)) c)) d rest hd
    ∙ ap (λ (x : ℕ). register_after x rest)
    (turns-more 8 (turns 8 (bit_xor (turns 8 (bit_xor register a)) b)) c d hc
    ∙ turns-more 16 (turns 8 (bit_xor register a)) b (c + d * 256) hb
    ∙ turns-more 24 register a (b + (c + d * 256) * 256) ha)

pub near : (n : ℕ) → n < 2 ^ 32 → turns 32 n ≡ bit_xor (bit_xor (bit_xor (turns 32 (n % 256)) (turns 24 (n / 256 % 256))) (turns 16 (n / 256 / 256 % 256))) (turns 8 (n / 256 / 256 / 256))
near n h =
    let top = n / 256 / 256 / 256 in
    turns-split 24 n
    ∙ ap (bit_xor (turns 32 (n % 256))) (turns-split 16 (n / 256) ∙ ap (bit_xor (turns 24 (n / 256 % 256))) (turns-split 8 (n / 256 / 256)))
    ∙ ap (bit_xor (turns 32 (n % 256))) (sym (xor_assoc (turns 24 (n / 256 % 256)) (turns 16 (n / 256 / 256 % 256)) (turns 8 top)))
    ∙ sym (xor_assoc (turns 32 (n % 256)) (bit_xor (turns 24 (n / 256 % 256)) (turns 16 (n / 256 / 256 % 256))) (turns 8 top))
    ∙ ap (λ (x : ℕ). bit_xor x (turns 8 top)) (sym (xor_assoc (turns 32 (n % 256)) (turns 24 (n / 256 % 256)) (turns 16 (n / 256 / 256 % 256))))

pub far : (n : ℕ) → n < 2 ^ 32 → turns 64 n ≡ bit_xor (bit_xor (bit_xor (turns 64 (n % 256)) (turns 56 (n / 256 % 256))) (turns 48 (n / 256 / 256 % 256))) (turns 40 (n / 256 / 256 / 256))
far n h =
    let top = n / 256 / 256 / 256 in
    turns-split 56 n
    ∙ ap (bit_xor (turns 64 (n % 256))) (turns-split 48 (n / 256) ∙ ap (bit_xor (turns 56 (n / 256 % 256))) (turns-split 40 (n / 256 / 256)))
    ∙ ap (bit_xor (turns 64 (n % 256))) (sym (xor_assoc (turns 56 (n / 256 % 256)) (turns 48 (n / 256 / 256 % 256)) (turns 40 top)))
    ∙ sym (xor_assoc (turns 64 (n % 256)) (bit_xor (turns 56 (n / 256 % 256)) (turns 48 (n / 256 / 256 % 256))) (turns 40 top))
    ∙ ap (λ (x : ℕ). bit_xor x (turns 40 top)) (sym (xor_assoc (turns 64 (n % 256)) (turns 56 (n / 256 % 256)) (turns 48 (n / 256 / 256 % 256))))
