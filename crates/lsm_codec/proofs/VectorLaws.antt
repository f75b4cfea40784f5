-- Vectors of 32 bytes side by side.
use Rattle.std.proofs.Common.{◌≡◌, ℕ, zero, suc, ◌+◌, ◌*◌, ◌/◌, ◌%◌, ◌^◌, ◌<◌}
use Rattle.std.proofs.Common.{List, [], ◌∷◌, ◌++◌, length, map, get_or, take, drop, replicate}
use Rattle.std.proofs.Common.{length-append, length-take-le}
use Rattle.std.proofs.Common.{bit_xor, refl, sym, ap, ◌∙◌, arith}
use Rattle.std.proofs.lemmas.Nat.{xor_comm}
use Rattle.std.proofs.lemmas.List.{append_assoc, length-map, take-append-drop}
use Rattle.std.specs.Simd.Lanes.{zip2}
use lib.Bits.{xor_shifted, xor_zero_r}
use Rattle.lsm_codec.specs.Crc.{register_after}
use Rattle.lsm_codec.specs.Turns.{shift, turns}
use Rattle.lsm_codec.specs.Words.{number, after_parts, xor_parts, after_vectors, spread}
use Rattle.lsm_codec.specs.declared.vectorwise.TheConstants.{LOW_0, HIGH_0, LOW_1, HIGH_1}
use Rattle.lsm_codec.specs.declared.vectorwise.TheConstants.{LOW_2, HIGH_2, LOW_3, HIGH_3}
use Rattle.lsm_codec.proofs.Shifts.{xor_cross, turns-xor, turns-zero, register_after-cons}
use Rattle.lsm_codec.proofs.Shifts.{register_after-nil}
use Rattle.lsm_codec.proofs.TableFacts.{tabulate, get_or-tabulate}
use Rattle.lsm_codec.proofs.WordLaws.{after_parts-start, after_parts-xor, turns-swap}
use Rattle.lsm_codec.proofs.WordLaws.{register_after-number}

-- ---- bytes are parts of 8 bits

pub in_parts : (bytes : List ℕ) (register : ℕ) → ((i : ℕ) → get_or bytes i 0 < 256)
    → register_after register bytes ≡ after_parts 8 register bytes
unfolding after_parts
in_parts [] register fits = register_after-nil register
in_parts (byte ∷ bytes) register fits =
    register_after-cons register byte bytes (fits 0)
    ∙ in_parts bytes (turns 8 (bit_xor register byte)) (λ i. fits (suc i))

pub after_parts-append : (xs ys : List ℕ) (r : ℕ)
    → after_parts 8 r (xs ++ ys) ≡ after_parts 8 (after_parts 8 r xs) ys
unfolding after_parts
after_parts-append [] ys r = refl
after_parts-append (x ∷ xs) ys r = after_parts-append xs ys (turns 8 (bit_xor r x))

-- a text of so many bytes behind another
behind : (n : ℕ) (xs ys : List ℕ) → length ys ≡ n
    → after_parts 8 0 (xs ++ ys)
    ≡ bit_xor (turns (n * 8) (after_parts 8 0 xs)) (after_parts 8 0 ys)
behind n xs ys e =
    after_parts-append xs ys 0 ∙ after_parts-start 8 ys (after_parts 8 0 xs)
    ∙ ap (λ (k : ℕ). bit_xor (turns (k * 8) (after_parts 8 0 xs)) (after_parts 8 0 ys)) e

pub xor_parts-zip2 : (xs ys : List ℕ) → zip2 bit_xor xs ys ≡ xor_parts xs ys
unfolding xor_parts
xor_parts-zip2 [] ys = refl
xor_parts-zip2 (x ∷ xs) [] = refl
xor_parts-zip2 (x ∷ xs) (y ∷ ys) = ap (λ (l : List ℕ). bit_xor x y ∷ l) (xor_parts-zip2 xs ys)

xor_parts-append : (xs ys us vs : List ℕ) → length xs ≡ length us
    → xor_parts (xs ++ ys) (us ++ vs) ≡ xor_parts xs us ++ xor_parts ys vs
unfolding xor_parts
xor_parts-append [] ys [] vs e = refl
xor_parts-append [] ys (u ∷ us) vs e = absurd (omega arith)
xor_parts-append (x ∷ xs) ys [] vs e = absurd (omega arith)
xor_parts-append (x ∷ xs) ys (u ∷ us) vs e =
    ap (λ (l : List ℕ). bit_xor x u ∷ l) (xor_parts-append xs ys us vs (omega arith))

pub in_four : (a b c d : List ℕ) → ((i : ℕ) → get_or a i 0 < 256)
    → ((i : ℕ) → get_or b i 0 < 256) → ((i : ℕ) → get_or c i 0 < 256)
    → ((i : ℕ) → get_or d i 0 < 256)
    → register_after (register_after (register_after (register_after 0 a) b) c) d
    ≡ after_vectors a b c d
unfolding after_vectors
in_four a b c d fa fb fc fd =
    let one : register_after 0 a ≡ after_parts 8 0 a = in_parts a 0 fa in
    let two : register_after (after_parts 8 0 a) b ≡ after_parts 8 0 (a ++ b) =
    in_parts b (after_parts 8 0 a) fb ∙ sym (after_parts-append a b 0) in
    rw one
    (rw two
    (ap (λ (r : ℕ). register_after r d) (in_parts c (after_parts 8 0 (a ++ b)) fc)
    ∙ in_parts d (after_parts 8 (after_parts 8 0 (a ++ b)) c) fd
    ∙ ap (λ (r : ℕ). after_parts 8 (after_parts 8 r c) d) (after_parts-append a b 0)
    ∙ sym (after_parts-append a (b ++ (c ++ d)) 0
    ∙ after_parts-append b (c ++ d) (after_parts 8 0 a)
    ∙ after_parts-append c d (after_parts 8 (after_parts 8 0 a) b))))

-- a vector that stands for a register, with the first bytes behind it
begun : (register : ℕ) (seed block rest : List ℕ) → length seed ≡ 32 → length block ≡ 32
    → after_parts 8 0 seed ≡ turns 256 register
    → after_parts 8 register (block ++ rest) ≡ after_parts 8 0 (zip2 bit_xor seed block ++ rest)
begun register seed block rest ls lb e =
    after_parts-append block rest register
    ∙ ap (λ (r : ℕ). after_parts 8 r rest)
    (after_parts-start 8 block register
    ∙ ap (λ (n : ℕ). bit_xor (turns (n * 8) register) (after_parts 8 0 block)) lb
    ∙ ap (λ (r : ℕ). bit_xor r (after_parts 8 0 block)) (sym e)
    ∙ sym (after_parts-xor 8 seed block 0 0 (ls ∙ sym lb))
    ∙ ap (after_parts 8 0) (sym (xor_parts-zip2 seed block)))
    ∙ sym (after_parts-append (zip2 bit_xor seed block) rest 0)

zeros_fit : (n i : ℕ) → get_or (replicate n 0) i 0 < 256
zeros_fit zero i = omega arith
zeros_fit (suc n) zero = omega arith
zeros_fit (suc n) (suc i) = zeros_fit n i

-- four bytes of a register, and 28 of 0
pub seeded : (a b c d register : ℕ) → a < 256 → b < 256 → c < 256 → d < 256
    → a + (b + (c + d * 256) * 256) * 256 ≡ register
    → after_parts 8 0 (a ∷ b ∷ c ∷ d ∷ replicate 28 0) ≡ turns 256 register
unfolding number
seeded a b c d register ha hb hc hd e =
    let text = a ∷ b ∷ c ∷ d ∷ replicate 28 0 in
    let fits : (i : ℕ) → get_or text i 0 < 256 =
    elim [
      | zero ↦ ha
      | suc zero ↦ hb
      | suc (suc zero) ↦ hc
      | suc (suc (suc zero)) ↦ hd
      | suc (suc (suc (suc i))) ↦ zeros_fit 28 i
    ] in
    let whole : number text ≡ register = omega (arith, e) in
    sym (in_parts text 0 fits) ∙ register_after-number text 0 fits
    ∙ ap (turns 256) (xor_comm 0 (number text) ∙ xor_zero_r (number text) ∙ whole)

pub started : (register : ℕ) (seed head a after b later c d : List ℕ) → length seed ≡ 32
    → after_parts 8 0 seed ≡ turns 256 register
    → a ≡ take 32 head → after ≡ drop 32 head → b ≡ take 32 after → later ≡ drop 32 after
    → c ≡ take 32 later → d ≡ drop 32 later → length head ≡ 128
    → after_parts 8 register head ≡ after_vectors (zip2 bit_xor seed a) b c d
unfolding after_vectors
started register seed head a after b later c d ls e fa ba fb bb fc bc long =
    let la : length a ≡ 32 = ap length fa ∙ length-take-le 32 head (omega (arith, long)) in
    let third : later ≡ c ++ d =
    sym (take-append-drop 32 later)
    ∙ ap (λ (l : List ℕ). l ++ drop 32 later) (sym fc) ∙ ap (λ (l : List ℕ). c ++ l) (sym bc)
    in
    let second : after ≡ b ++ (c ++ d) =
    sym (take-append-drop 32 after)
    ∙ ap (λ (l : List ℕ). l ++ drop 32 after) (sym fb)
    ∙ ap (λ (l : List ℕ). b ++ l) (sym bb ∙ third) in
    let first : head ≡ a ++ (b ++ (c ++ d)) =
    sym (take-append-drop 32 head)
    ∙ ap (λ (l : List ℕ). l ++ drop 32 head) (sym fa)
    ∙ ap (λ (l : List ℕ). a ++ l) (sym ba ∙ second) in
    ap (after_parts 8 register) first
    ∙ begun register seed a (b ++ (c ++ d)) ls la e

-- ---- four registers, each moved on by the vectors behind it

abbrev pub weighed : (a b c d : ℕ) → ℕ
weighed a b c d = bit_xor (turns 768 a) (bit_xor (turns 512 b) (bit_xor (turns 256 c) d))

weighed-xor : (a b c d e f g h : ℕ)
    → weighed (bit_xor a e) (bit_xor b f) (bit_xor c g) (bit_xor d h)
    ≡ bit_xor (weighed a b c d) (weighed e f g h)
weighed-xor a b c d e f g h =
    let first : turns 768 (bit_xor a e) ≡ bit_xor (turns 768 a) (turns 768 e) =
    turns-xor 768 a e in
    let second : turns 512 (bit_xor b f) ≡ bit_xor (turns 512 b) (turns 512 f) =
    turns-xor 512 b f in
    let third : turns 256 (bit_xor c g) ≡ bit_xor (turns 256 c) (turns 256 g) =
    turns-xor 256 c g in
    let inner = bit_xor (turns 256 c) d in
    let other = bit_xor (turns 256 g) h in
    rw (first, second, third)
    (ap (λ (n : ℕ). bit_xor (bit_xor (turns 768 a) (turns 768 e))
    (bit_xor (bit_xor (turns 512 b) (turns 512 f)) n))
    (xor_cross (turns 256 c) (turns 256 g) d h)
    ∙ ap (bit_xor (bit_xor (turns 768 a) (turns 768 e)))
    (xor_cross (turns 512 b) (turns 512 f) inner other)
    ∙ xor_cross (turns 768 a) (turns 768 e) (bit_xor (turns 512 b) inner)
    (bit_xor (turns 512 f) other))

weighed-turns : (k a b c d : ℕ)
    → turns k (weighed a b c d) ≡ weighed (turns k a) (turns k b) (turns k c) (turns k d)
weighed-turns k a b c d =
    let first : turns k (turns 768 a) ≡ turns 768 (turns k a) = turns-swap k 768 a in
    let second : turns k (turns 512 b) ≡ turns 512 (turns k b) = turns-swap k 512 b in
    let third : turns k (turns 256 c) ≡ turns 256 (turns k c) = turns-swap k 256 c in
    let inner = bit_xor (turns 256 c) d in
    turns-xor k (turns 768 a) (bit_xor (turns 512 b) inner)
    ∙ ap (bit_xor (turns k (turns 768 a)))
    (turns-xor k (turns 512 b) inner
    ∙ ap (bit_xor (turns k (turns 512 b))) (turns-xor k (turns 256 c) d))
    ∙ rw (first, second, third) refl

-- four vectors, each moved on by those behind it
weighs : (a b c d : List ℕ) → length b ≡ 32 → length c ≡ 32 → length d ≡ 32
    → after_vectors a b c d
    ≡ weighed (after_parts 8 0 a) (after_parts 8 0 b) (after_parts 8 0 c) (after_parts 8 0 d)
unfolding after_vectors
weighs a b c d f g h =
    behind 96 a (b ++ (c ++ d)) (omega (arith, length-append b (c ++ d), length-append c d))
    ∙ ap (bit_xor (turns 768 (after_parts 8 0 a)))
    (behind 64 b (c ++ d) (omega (arith, length-append c d))
    ∙ ap (bit_xor (turns 512 (after_parts 8 0 b))) (behind 32 c d h))

-- ---- what each byte comes to

abbrev SpreadsBy : (s t u v : ℕ → ℕ) → Type 0
SpreadsBy s t u v = (x : ℕ) → x < 256 → turns 1024 x ≡ weighed (s x) (t x) (u x) (v x)

module _ (s t u v : ℕ → ℕ) (h : SpreadsBy s t u v) where
  spreads : (a : List ℕ) (r j k l m : ℕ) → ((i : ℕ) → get_or a i 0 < 256)
      → turns 1024 r ≡ weighed j k l m
      → turns 1024 (after_parts 8 r a)
      ≡ weighed (after_parts 8 j (map s a)) (after_parts 8 k (map t a))
      (after_parts 8 l (map u a)) (after_parts 8 m (map v a))
  unfolding after_parts
  spreads [] r j k l m fits e = e
  spreads (x ∷ a) r j k l m fits e =
      spreads a (turns 8 (bit_xor r x)) (turns 8 (bit_xor j (s x))) (turns 8 (bit_xor k (t x)))
      (turns 8 (bit_xor l (u x))) (turns 8 (bit_xor m (v x))) (λ i. fits (suc i))
      (turns-swap 1024 8 (bit_xor r x)
      ∙ ap (turns 8)
      (turns-xor 1024 r x ∙ ap (λ (n : ℕ). bit_xor n (turns 1024 x)) e
      ∙ ap (bit_xor (weighed j k l m)) (h x (fits 0))
      ∙ sym (weighed-xor j k l m (s x) (t x) (u x) (v x)))
      ∙ weighed-turns 8 (bit_xor j (s x)) (bit_xor k (t x)) (bit_xor l (u x)) (bit_xor m (v x)))

  zeros : turns 1024 0 ≡ weighed 0 0 0 0
  zeros =
      let a : turns 1024 0 ≡ 0 = turns-zero 1024 in
      let b : turns 768 0 ≡ 0 = turns-zero 768 in
      let c : turns 512 0 ≡ 0 = turns-zero 512 in
      let d : turns 256 0 ≡ 0 = turns-zero 256 in
      rw (a, b, c, d) refl

  -- the first vector is taken away, and 32 bytes come in
  pub slid : (a b c d e : List ℕ) → ((i : ℕ) → get_or a i 0 < 256) → length a ≡ 32
      → length b ≡ 32 → length c ≡ 32 → length d ≡ 32 → length e ≡ 32
      → after_parts 8 (after_vectors a b c d) e
      ≡ after_vectors (zip2 bit_xor b (map s a)) (zip2 bit_xor c (map t a))
      (zip2 bit_xor d (map u a)) (zip2 bit_xor e (map v a))
  unfolding after_vectors
  slid a b c d e fits la lb lc ld le =
      let rest = b ++ (c ++ (d ++ e)) in
      let more = map s a ++ (map t a ++ (map u a ++ map v a)) in
      let long : length rest ≡ 128 =
      omega (arith, length-append b (c ++ (d ++ e)), length-append c (d ++ e), length-append d e)
      in
      let far : after_vectors (map s a) (map t a) (map u a) (map v a)
      ≡ turns 1024 (after_parts 8 0 a) =
      weighs (map s a) (map t a) (map u a) (map v a) (length-map a t ∙ la) (length-map a u ∙ la)
      (length-map a v ∙ la)
      ∙ sym (spreads a 0 0 0 0 0 fits zeros) in
      let wide : length rest ≡ length more =
      omega (
        arith,
        long,
        length-append (map s a) (map t a ++ (map u a ++ map v a)),
        length-append (map t a) (map u a ++ map v a),
        length-append (map u a) (map v a),
        length-map a s,
        length-map a t,
        length-map a u,
        length-map a v,
      ) in
      let apart : xor_parts rest more ≡ xor_parts b (map s a) ++ (xor_parts c (map t a)
      ++ (xor_parts d (map u a) ++ xor_parts e (map v a))) =
      xor_parts-append b (c ++ (d ++ e)) (map s a) (map t a ++ (map u a ++ map v a))
      (lb ∙ sym (length-map a s ∙ la))
      ∙ ap (λ (l : List ℕ). xor_parts b (map s a) ++ l)
      (xor_parts-append c (d ++ e) (map t a) (map u a ++ map v a)
      (lc ∙ sym (length-map a t ∙ la))
      ∙ ap (λ (l : List ℕ). xor_parts c (map t a) ++ l)
      (xor_parts-append d e (map u a) (map v a) (ld ∙ sym (length-map a u ∙ la)))) in
      let one : zip2 bit_xor b (map s a) ≡ xor_parts b (map s a) = xor_parts-zip2 b (map s a) in
      let two : zip2 bit_xor c (map t a) ≡ xor_parts c (map t a) = xor_parts-zip2 c (map t a) in
      let three : zip2 bit_xor d (map u a) ≡ xor_parts d (map u a) = xor_parts-zip2 d (map u a) in
      let four : zip2 bit_xor e (map v a) ≡ xor_parts e (map v a) = xor_parts-zip2 e (map v a) in
      let together : (a ++ (b ++ (c ++ d))) ++ e ≡ a ++ rest =
      append_assoc a (b ++ (c ++ d)) e
      ∙ ap (λ (l : List ℕ). a ++ l)
      (append_assoc b (c ++ d) e ∙ ap (λ (l : List ℕ). b ++ l) (append_assoc c d e)) in
      sym (after_parts-append (a ++ (b ++ (c ++ d))) e 0) ∙ ap (after_parts 8 0) together
      ∙ behind 128 a rest long
      ∙ xor_comm (turns 1024 (after_parts 8 0 a)) (after_parts 8 0 rest)
      ∙ ap (bit_xor (after_parts 8 0 rest)) (sym far)
      ∙ sym (after_parts-xor 8 rest more 0 0 wide)
      ∙ ap (after_parts 8 0) apart
      ∙ rw (one, two, three, four) refl

-- ---- the tables

abbrev of_low : ℕ → ℕ
of_low n = weighed (get_or LOW_0 n 0) (get_or LOW_1 n 0) (get_or LOW_2 n 0) (get_or LOW_3 n 0)

abbrev of_high : ℕ → ℕ
of_high n = weighed (get_or HIGH_0 n 0) (get_or HIGH_1 n 0) (get_or HIGH_2 n 0) (get_or HIGH_3 n 0)

abbrev far_high : ℕ → ℕ
far_high n = turns 1024 (n * 16)

low_half : tabulate (turns 1024) 0 16 ≡ tabulate of_low 0 16
unfolding turns shift
low_half = refl

high_half : tabulate far_high 0 16 ≡ tabulate of_high 0 16
unfolding turns shift
high_half = refl

at : (f g : ℕ → ℕ) → tabulate f 0 16 ≡ tabulate g 0 16 → (n : ℕ) → n < 16 → f n ≡ g n
at f g e n h =
    let place : 0 + n ≡ n = omega arith in
    ap f (sym place) ∙ sym (get_or-tabulate f 0 16 n h) ∙ ap (λ (l : List ℕ). get_or l n 0) e
    ∙ get_or-tabulate g 0 16 n h ∙ ap g place

pub tables_spread : SpreadsBy (spread LOW_0 HIGH_0) (spread LOW_1 HIGH_1) (spread LOW_2 HIGH_2)
    (spread LOW_3 HIGH_3)
tables_spread x h =
    let low = x % 16 in
    let high = x / 16 in
    let parts : bit_xor (high * 2 ^ 4) low ≡ x =
    xor_shifted high 4 low (omega arith) ∙ omega arith in
    ap (turns 1024) (sym parts ∙ xor_comm (high * 16) low)
    ∙ turns-xor 1024 low (high * 16)
    ∙ ap (bit_xor (turns 1024 low)) (at far_high of_high high_half high (omega arith))
    ∙ ap (λ (n : ℕ). bit_xor n (of_high high)) (at (turns 1024) of_low low_half low (omega arith))
    ∙ sym (weighed-xor (get_or LOW_0 low 0) (get_or LOW_1 low 0) (get_or LOW_2 low 0)
    (get_or LOW_3 low 0) (get_or HIGH_0 high 0) (get_or HIGH_1 high 0) (get_or HIGH_2 high 0)
    (get_or HIGH_3 high 0))
