-- Words side by side.
use Rattle.std.proofs.Common.{◌≡◌, ℕ, suc, take, drop, ◌+◌, ◌*◌, ◌/◌, ◌%◌, ◌<◌, List, [], ◌∷◌, length, map, get_or, bit_xor, bit_and, refl, sym, ap, ◌∙◌, arith}
use Rattle.std.proofs.lemmas.Nat.{and_mask, xor_comm}
use Rattle.std.proofs.lemmas.List.{length-map, take-append-drop}
use Rattle.std.proofs.Math.Nat.{div-div-eq-div-mul}
use Rattle.std.specs.Int.{w64, from_le_bytes}
use lib.Bits.{xor_assoc, xor_zero_r}
use Rattle.lsm_codec.specs.Crc.{register_after}
use Rattle.lsm_codec.specs.Turns.{turns}
use Rattle.lsm_codec.specs.Words.{number, after_parts, xor_parts}
use Rattle.lsm_codec.proofs.Shifts.{xor_cross, turns-xor, turns-turns, turns-zero, turns-split, turns-more, register_after-cons, register_after-nil, register_after-append}

-- a text is one large number
pub register_after-number : (bytes : List ℕ) (register : ℕ) → ((i : ℕ) → get_or bytes i 0 < 256) → register_after register bytes ≡ turns (length bytes * 8) (bit_xor register (number bytes))
unfolding number turns
register_after-number [] register fits = register_after-nil register ∙ sym (xor_zero_r register)
register_after-number (byte ∷ bytes) register fits =
    let count : 8 + length bytes * 8 ≡ suc (length bytes) * 8 = omega arith in
    register_after-cons register byte bytes (fits 0)
    ∙ register_after-number bytes (turns 8 (bit_xor register byte)) (λ i. fits (suc i))
    ∙ turns-more (length bytes * 8) register byte (number bytes) (fits 0)
    ∙ ap (λ (x : ℕ). turns x (bit_xor register (byte + number bytes * 256))) count

pub turns-swap : (m n x : ℕ) → turns m (turns n x) ≡ turns n (turns m x)
turns-swap m n x =
    let e : n + m ≡ m + n = omega arith in
    turns-turns m n x ∙ ap (λ (k : ℕ). turns k x) e ∙ sym (turns-turns n m x)

-- the division is linear
pub after_parts-xor : (width : ℕ) (xs ys : List ℕ) (r q : ℕ) → length xs ≡ length ys
    → after_parts width (bit_xor r q) (xor_parts xs ys)
    ≡ bit_xor (after_parts width r xs) (after_parts width q ys)
unfolding after_parts xor_parts
after_parts-xor width [] [] r q e = refl
after_parts-xor width [] (y ∷ ys) r q e = absurd (omega arith)
after_parts-xor width (x ∷ xs) [] r q e = absurd (omega arith)
after_parts-xor width (x ∷ xs) (y ∷ ys) r q e =
    ap (λ (k : ℕ). after_parts width k (xor_parts xs ys))
    (ap (turns width) (xor_cross r q x y) ∙ turns-xor width (bit_xor r x) (bit_xor q y))
    ∙ after_parts-xor width xs ys (turns width (bit_xor r x)) (turns width (bit_xor q y))
    (omega arith)

pub after_parts-turns : (width k : ℕ) (xs : List ℕ) (r : ℕ)
    → after_parts width (turns k r) (map (turns k) xs) ≡ turns k (after_parts width r xs)
unfolding after_parts
after_parts-turns width k [] r = refl
after_parts-turns width k (x ∷ xs) r =
    ap (λ (n : ℕ). after_parts width n (map (turns k) xs))
    (ap (turns width) (sym (turns-xor k r x)) ∙ turns-swap width k (bit_xor r x))
    ∙ after_parts-turns width k xs (turns width (bit_xor r x))

xor_zero_l : (n : ℕ) → bit_xor 0 n ≡ n
xor_zero_l n = xor_comm 0 n ∙ xor_zero_r n

-- what stands in the register comes in as if with the first part
pub after_parts-start : (width : ℕ) (xs : List ℕ) (r : ℕ)
    → after_parts width r xs ≡ bit_xor (turns (length xs * width) r) (after_parts width 0 xs)
unfolding after_parts turns
after_parts-start width [] r =
    let none : 0 ≡ 0 * width = omega arith in
    sym (xor_zero_r r) ∙ ap (λ (n : ℕ). bit_xor (turns n r) 0) none
after_parts-start width (x ∷ xs) r =
    let count : width + length xs * width ≡ suc (length xs) * width = omega arith in
    let far = length xs * width in
    let all = suc (length xs) * width in
    after_parts-start width xs (turns width (bit_xor r x))
    ∙ ap (λ (n : ℕ). bit_xor n (after_parts width 0 xs))
    (turns-turns far width (bit_xor r x) ∙ ap (λ (n : ℕ). turns n (bit_xor r x)) count
    ∙ turns-xor all r x)
    ∙ xor_assoc (turns all r) (turns all x) (after_parts width 0 xs)
    ∙ ap (bit_xor (turns all r))
    (ap (λ (n : ℕ). bit_xor n (after_parts width 0 xs))
    (ap (λ (n : ℕ). turns n x) (sym count) ∙ sym (turns-turns far width x)
    ∙ ap (λ (n : ℕ). turns far (turns width n)) (sym (xor_zero_l x)))
    ∙ sym (after_parts-start width xs (turns width (bit_xor 0 x))))

-- One stride: the words so far are moved on by a stride, each by itself, and the new words are
-- added.
pub stride : (state block : List ℕ) → length state ≡ length block
    → after_parts 64 (after_parts 64 0 state) block
    ≡ after_parts 64 0 (xor_parts (map (turns (length block * 64)) state) block)
stride state block e =
    let n = length block * 64 in
    after_parts-start 64 block (after_parts 64 0 state)
    ∙ ap (λ (x : ℕ). bit_xor x (after_parts 64 0 block))
    (sym (after_parts-turns 64 n state 0)
    ∙ ap (λ (x : ℕ). after_parts 64 x (map (turns n) state)) (turns-zero n))
    ∙ sym (after_parts-xor 64 (map (turns n) state) block 0 0 (length-map state (turns n) ∙ e))

-- the bytes of a word, as the code takes them
masks : (t0 t1 t2 t3 t4 t5 t6 t7 n : ℕ) (f : ℕ → ℕ → ℕ)
    → bit_xor (f t0 (bit_and n 255)) (bit_xor (f t1 (bit_and (n / 256) 255)) (bit_xor (f t2 (bit_and (n / 65536) 255)) (bit_xor (f t3 (bit_and (n / 16777216) 255)) (bit_xor (f t4 (bit_and (n / 4294967296) 255)) (bit_xor (f t5 (bit_and (n / 1099511627776) 255)) (bit_xor (f t6 (bit_and (n / 281474976710656) 255)) (f t7 (n / 72057594037927936))))))))
    ≡ bit_xor (f t0 (n % 256)) (bit_xor (f t1 (n / 256 % 256)) (bit_xor (f t2 (n / 256 / 256 % 256)) (bit_xor (f t3 (n / 256 / 256 / 256 % 256)) (bit_xor (f t4 (n / 256 / 256 / 256 / 256 % 256)) (bit_xor (f t5 (n / 256 / 256 / 256 / 256 / 256 % 256)) (bit_xor (f t6 (n / 256 / 256 / 256 / 256 / 256 / 256 % 256)) (f t7 (n / 256 / 256 / 256 / 256 / 256 / 256 / 256))))))))
masks t0 t1 t2 t3 t4 t5 t6 t7 n f =
    let d1 : n / 256 ≡ n / 256 = refl in
    let d2 : n / 65536 ≡ n / 256 / 256 = omega arith in
    let d3 : n / 16777216 ≡ n / 256 / 256 / 256 = omega arith in
    let d4 : n / 4294967296 ≡ n / 256 / 256 / 256 / 256 = sym (div-div-eq-div-mul n 16777216 256) ∙ ap (λ (x : ℕ). x / 256) d3 in
    let d5 : n / 1099511627776 ≡ n / 256 / 256 / 256 / 256 / 256 = sym (div-div-eq-div-mul n 4294967296 256) ∙ ap (λ (x : ℕ). x / 256) d4 in
    let d6 : n / 281474976710656 ≡ n / 256 / 256 / 256 / 256 / 256 / 256 = sym (div-div-eq-div-mul n 1099511627776 256) ∙ ap (λ (x : ℕ). x / 256) d5 in
    let d7 : n / 72057594037927936 ≡ n / 256 / 256 / 256 / 256 / 256 / 256 / 256 = sym (div-div-eq-div-mul n 281474976710656 256) ∙ ap (λ (x : ℕ). x / 256) d6 in
    let m0 : bit_and n 255 ≡ n % 256 = and_mask n 8 in
    let m1 : bit_and (n / 256) 255 ≡ n / 256 % 256 = and_mask (n / 256) 8 in
    let m2 : bit_and (n / 65536) 255 ≡ n / 256 / 256 % 256 = and_mask (n / 65536) 8 ∙ ap (λ (x : ℕ). x % 256) d2 in
    let m3 : bit_and (n / 16777216) 255 ≡ n / 256 / 256 / 256 % 256 = and_mask (n / 16777216) 8 ∙ ap (λ (x : ℕ). x % 256) d3 in
    let m4 : bit_and (n / 4294967296) 255 ≡ n / 256 / 256 / 256 / 256 % 256 = and_mask (n / 4294967296) 8 ∙ ap (λ (x : ℕ). x % 256) d4 in
    let m5 : bit_and (n / 1099511627776) 255 ≡ n / 256 / 256 / 256 / 256 / 256 % 256 = and_mask (n / 1099511627776) 8 ∙ ap (λ (x : ℕ). x % 256) d5 in
    let m6 : bit_and (n / 281474976710656) 255 ≡ n / 256 / 256 / 256 / 256 / 256 / 256 % 256 = and_mask (n / 281474976710656) 8 ∙ ap (λ (x : ℕ). x % 256) d6 in
    rw (m0, m1, m2, m3, m4, m5, m6, d7) refl

pub near_word : (n : ℕ)
    → bit_xor (turns 64 (bit_and n 255)) (bit_xor (turns 56 (bit_and (n / 256) 255)) (bit_xor (turns 48 (bit_and (n / 65536) 255)) (bit_xor (turns 40 (bit_and (n / 16777216) 255)) (bit_xor (turns 32 (bit_and (n / 4294967296) 255)) (bit_xor (turns 24 (bit_and (n / 1099511627776) 255)) (bit_xor (turns 16 (bit_and (n / 281474976710656) 255)) (turns 8 (n / 72057594037927936))))))))
    ≡ turns 64 n
near_word n =
    masks 64 56 48 40 32 24 16 8 n turns
    ∙ sym (turns-split 56 (n) ∙ ap (bit_xor (turns 64 (n % 256))) (turns-split 48 (n / 256) ∙ ap (bit_xor (turns 56 (n / 256 % 256))) (turns-split 40 (n / 256 / 256) ∙ ap (bit_xor (turns 48 (n / 256 / 256 % 256))) (turns-split 32 (n / 256 / 256 / 256) ∙ ap (bit_xor (turns 40 (n / 256 / 256 / 256 % 256))) (turns-split 24 (n / 256 / 256 / 256 / 256) ∙ ap (bit_xor (turns 32 (n / 256 / 256 / 256 / 256 % 256))) (turns-split 16 (n / 256 / 256 / 256 / 256 / 256) ∙ ap (bit_xor (turns 24 (n / 256 / 256 / 256 / 256 / 256 % 256))) (turns-split 8 (n / 256 / 256 / 256 / 256 / 256 / 256))))))))

pub far_word : (n : ℕ)
    → bit_xor (turns 256 (bit_and n 255)) (bit_xor (turns 248 (bit_and (n / 256) 255)) (bit_xor (turns 240 (bit_and (n / 65536) 255)) (bit_xor (turns 232 (bit_and (n / 16777216) 255)) (bit_xor (turns 224 (bit_and (n / 4294967296) 255)) (bit_xor (turns 216 (bit_and (n / 1099511627776) 255)) (bit_xor (turns 208 (bit_and (n / 281474976710656) 255)) (turns 200 (n / 72057594037927936))))))))
    ≡ turns 256 n
far_word n =
    masks 256 248 240 232 224 216 208 200 n turns
    ∙ sym (turns-split 248 (n) ∙ ap (bit_xor (turns 256 (n % 256))) (turns-split 240 (n / 256) ∙ ap (bit_xor (turns 248 (n / 256 % 256))) (turns-split 232 (n / 256 / 256) ∙ ap (bit_xor (turns 240 (n / 256 / 256 % 256))) (turns-split 224 (n / 256 / 256 / 256) ∙ ap (bit_xor (turns 232 (n / 256 / 256 / 256 % 256))) (turns-split 216 (n / 256 / 256 / 256 / 256) ∙ ap (bit_xor (turns 224 (n / 256 / 256 / 256 / 256 % 256))) (turns-split 208 (n / 256 / 256 / 256 / 256 / 256) ∙ ap (bit_xor (turns 216 (n / 256 / 256 / 256 / 256 / 256 % 256))) (turns-split 200 (n / 256 / 256 / 256 / 256 / 256 / 256))))))))

number_eight : (xs : List ℕ) → length xs ≡ 8
    → number xs ≡ from_le_bytes w64 (get_or xs 0 0 ∷ get_or xs 1 0 ∷ get_or xs 2 0 ∷ get_or xs 3 0 ∷ get_or xs 4 0 ∷ get_or xs 5 0 ∷ get_or xs 6 0 ∷ get_or xs 7 0 ∷ [])
unfolding number
number_eight (a ∷ b ∷ c ∷ d ∷ e ∷ f ∷ g ∷ h ∷ []) len = omega arith
number_eight xs len = absurd (omega arith)

-- eight bytes as a word
pub word_is : (xs : List ℕ) (register : ℕ) → length xs ≡ 8 → ((i : ℕ) → get_or xs i 0 < 256)
    → register_after register xs ≡ turns 64 (bit_xor register (from_le_bytes w64 (get_or xs 0 0 ∷ get_or xs 1 0 ∷ get_or xs 2 0 ∷ get_or xs 3 0 ∷ get_or xs 4 0 ∷ get_or xs 5 0 ∷ get_or xs 6 0 ∷ get_or xs 7 0 ∷ [])))
word_is xs register len fits =
    let count : length xs * 8 ≡ 64 = omega arith in
    register_after-number xs register fits
    ∙ ap (λ (k : ℕ). turns k (bit_xor register (number xs))) count
    ∙ ap (λ (n : ℕ). turns 64 (bit_xor register n)) (number_eight xs len)

-- what stands in front, and what is behind it
pub pieces : (k : ℕ) (xs : List ℕ) (register : ℕ) → register_after register xs ≡ register_after (register_after register (take k xs)) (drop k xs)
pieces k xs register = ap (register_after register) (sym (take-append-drop k xs)) ∙ register_after-append (take k xs) (drop k xs) register

-- a block in front, absorbed
pub joins : (k before after : ℕ) (bytes block rest : List ℕ) → block ≡ take k bytes
    → rest ≡ drop k bytes → register_after before block ≡ after
    → register_after after rest ≡ register_after before bytes
joins k before after bytes block rest front back e =
    ap (register_after after) back
    ∙ ap (λ (r : ℕ). register_after r (drop k bytes))
    (sym e ∙ ap (register_after before) front)
    ∙ sym (pieces k bytes before)

abbrev pub IsWord : List ℕ → ℕ → Type 0
IsWord bytes word = (register : ℕ) → register_after register bytes ≡ turns 64 (bit_xor register word)

pub four_words : (block : List ℕ) (a b c d register : ℕ) → IsWord (take 8 block) a → IsWord (take 8 (drop 8 block)) b → IsWord (take 8 (drop 8 (drop 8 block))) c → IsWord (drop 8 (drop 8 (drop 8 block))) d
    → register_after register block ≡ after_parts 64 register (a ∷ b ∷ c ∷ d ∷ [])
unfolding after_parts
four_words block a b c d register ha hb hc hd =
    pieces 8 block register ∙ ap (λ (r : ℕ). register_after r (drop 8 block)) (ha register)
    ∙ pieces 8 (drop 8 block) (turns 64 (bit_xor register a)) ∙ ap (λ (r : ℕ). register_after r (drop 8 (drop 8 block))) (hb (turns 64 (bit_xor register a)))
    ∙ pieces 8 (drop 8 (drop 8 block)) (turns 64 (bit_xor (turns 64 (bit_xor register a)) b)) ∙ ap (λ (r : ℕ). register_after r (drop 8 (drop 8 (drop 8 block)))) (hc (turns 64 (bit_xor (turns 64 (bit_xor register a)) b)))
    ∙ hd (turns 64 (bit_xor (turns 64 (bit_xor (turns 64 (bit_xor register a)) b)) c))

-- one stride of four words
pub stride_four : (a b c d e f g h : ℕ)
    → after_parts 64 (after_parts 64 0 (a ∷ b ∷ c ∷ d ∷ [])) (e ∷ f ∷ g ∷ h ∷ [])
    ≡ after_parts 64 0 (bit_xor (turns 256 a) e ∷ bit_xor (turns 256 b) f
    ∷ bit_xor (turns 256 c) g ∷ bit_xor (turns 256 d) h ∷ [])
unfolding xor_parts
stride_four a b c d e f g h = stride (a ∷ b ∷ c ∷ d ∷ []) (e ∷ f ∷ g ∷ h ∷ []) refl

pub start_four : (register a b c d : ℕ)
    → after_parts 64 register (a ∷ b ∷ c ∷ d ∷ [])
    ≡ after_parts 64 0 (bit_xor register a ∷ b ∷ c ∷ d ∷ [])
unfolding after_parts
start_four register a b c d =
    ap (λ (n : ℕ). after_parts 64 (turns 64 n) (b ∷ c ∷ d ∷ []))
    (sym (xor_zero_l (bit_xor register a)))

pub joined_four : (a b c d : ℕ)
    → turns 64 (bit_xor (turns 64 (bit_xor (turns 64 (bit_xor (turns 64 a) b)) c)) d)
    ≡ after_parts 64 0 (a ∷ b ∷ c ∷ d ∷ [])
unfolding after_parts
joined_four a b c d = ap (λ (n : ℕ). turns 64 (bit_xor (turns 64 (bit_xor (turns 64 (bit_xor (turns 64 n) b)) c)) d)) (sym (xor_zero_l a))
