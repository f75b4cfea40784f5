-- The texts of words, by their number.
use Rattle.std.proofs.Common.{◌≡◌, ℕ, ◌<◌, ◌≤◌, List, [], ◌∷◌, length, map, get_or, drop, refl, arith, Bor}

-- a word behind its reference
abbrev pub Word : Type 0
Word = Bor (List ℕ)

abbrev pub texts : List Word → List (List ℕ)
texts ws = map (λ w. w.now) ws

-- what is read past the end
abbrev pub blank : Word
blank = record { ref_ptr = (0, 0); now = [] }

pub one_text : (ws : List Word) → 1 ≤ length ws → length ws < 2 → texts ws ≡ (get_or ws 0 blank).now ∷ []
one_text [] h k = absurd (omega (arith, h))
one_text (a ∷ []) h k = refl
one_text (a ∷ b ∷ ws) h k = absurd (omega (arith, k))

pub two_texts : (ws : List Word) → 2 ≤ length ws → length ws < 3 → texts ws ≡ (get_or ws 0 blank).now ∷ (get_or ws 1 blank).now ∷ []
two_texts [] h k = absurd (omega (arith, h))
two_texts (a ∷ []) h k = absurd (omega (arith, h))
two_texts (a ∷ b ∷ []) h k = refl
two_texts (a ∷ b ∷ d ∷ ws) h k = absurd (omega (arith, k))

pub three_texts : (ws : List Word) → 3 ≤ length ws → length ws < 4 → texts ws ≡ (get_or ws 0 blank).now ∷ (get_or ws 1 blank).now ∷ (get_or ws 2 blank).now ∷ []
three_texts [] h k = absurd (omega (arith, h))
three_texts (a ∷ []) h k = absurd (omega (arith, h))
three_texts (a ∷ b ∷ []) h k = absurd (omega (arith, h))
three_texts (a ∷ b ∷ d ∷ []) h k = refl
three_texts (a ∷ b ∷ d ∷ e ∷ ws) h k = absurd (omega (arith, k))

pub more_texts : (ws : List Word) → 1 ≤ length ws → texts ws ≡ (get_or ws 0 blank).now ∷ texts (drop 1 ws)
more_texts [] h = absurd (omega (arith, h))
more_texts (a ∷ ws) h = refl
