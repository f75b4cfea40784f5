-- A line is parted into words.
use Rattle.std.proofs.Common.{◌≡◌, ◌≢◌, ℕ, suc, ◌+◌, ◌-◌, ◌<◌, ◌≤◌, List, [], ◌∷◌, ◌++◌, length, map, get_or, take, drop, refl, sym, ap, ◌∙◌, subst, append_assoc, append-nil, add-one, drop-cons, arith, inl, inr, Bor}
use Rattle.std.proofs.lemmas.Bool.{cases_eq, ne_eqb}
use Rattle.std.proofs.lemmas.List.{take_more, take_all, drop_all, get_or-drop, length-drop, map-append}
use Rattle.lsm_text.specs.EntryList.{with_first}
use Rattle.lsm_script.specs.Words.{words_of}

-- a word behind its reference
abbrev pub Word : Type 0
Word = Bor (List ℕ)

abbrev pub texts : List Word → List (List ℕ)
texts ws = map (λ w. w.now) ws

-- what is read past the end
abbrev pub blank : Word
blank = record { ref_ptr = (0, 0); now = [] }

-- the text and, in front of its first word, some bytes more
abbrev pub glued : List ℕ → List (List ℕ) → List (List ℕ)
glued front [] = front ∷ []
glued front (w ∷ ws) = (front ++ w) ∷ ws

words_of-nil : words_of [] ≡ [] ∷ []
unfolding words_of
words_of-nil = refl

words_of-space : (c : ℕ) (cs : List ℕ) → c ≡ 32 → words_of (c ∷ cs) ≡ [] ∷ words_of cs
unfolding words_of
words_of-space c cs e = rw e refl

words_of-other : (c : ℕ) (cs : List ℕ) → c ≢ 32 → words_of (c ∷ cs) ≡ with_first c (words_of cs)
unfolding words_of
words_of-other c cs n = let test = ne_eqb c 32 n in rw test refl

glued-other : (front : List ℕ) (c : ℕ) (ws : List (List ℕ)) → glued front (with_first c ws) ≡ glued (front ++ c ∷ []) ws
glued-other front c [] = refl
glued-other front c (w ∷ ws) = ap (λ (x : List ℕ). x ∷ ws) (sym (append_assoc front (c ∷ []) w))

with_first-glued : (c : ℕ) (ws : List (List ℕ)) → glued [] (with_first c ws) ≡ with_first c ws
with_first-glued c [] = refl
with_first-glued c (w ∷ ws) = refl

glued-none : (cs : List ℕ) → glued [] (words_of cs) ≡ words_of cs
glued-none [] = rw words_of-nil refl
glued-none (c ∷ cs) = elim (cases_eq c 32) [
  | inl same ↦ let e = words_of-space c cs same in rw e refl
  | inr other ↦ let e = words_of-other c cs other in rw e (with_first-glued c (words_of cs))
]

-- ---- a loop over the places of a line

-- So many bytes of the line were read, and these words, the last of which begins at `start`.
pub record HasParted (line : List ℕ) (start i : ℕ) (ws : List (List ℕ)) : Type 0 where
  pub order : start ≤ i
  pub parts : ws ++ glued (take (i - start) (drop start line)) (words_of (drop i line)) ≡ words_of line

pub parted_start : (line : List ℕ) → HasParted line 0 0 []
parted_start line = record { order = omega arith; parts = glued-none line }

pub parted_space : (line : List ℕ) (start i : ℕ) (ws : List (List ℕ)) (word : List ℕ) → HasParted line start i ws → i < length line → get_or line i 0 ≡ 32
    → word ≡ take (i - start) (drop start line) → HasParted line (i + 1) (i + 1) (ws ++ word ∷ [])
parted_space line start i ws word h inside at is =
    let front : drop i line ≡ get_or line i 0 ∷ drop (suc i) line = drop-cons line i 0 inside in
    let later : List (List ℕ) = words_of (drop (i + 1) line) in
    let next : words_of (drop i line) ≡ [] ∷ later = ap words_of front ∙ words_of-space (get_or line i 0) (drop (suc i) line) at ∙ ap (λ k. [] ∷ words_of (drop k line)) (sym (add-one i)) in
    let none : i + 1 - (i + 1) ≡ 0 = omega arith in
    let glue : glued (take (i - start) (drop start line)) (words_of (drop i line)) ≡ word ∷ later =
    ap (glued (take (i - start) (drop start line))) next ∙ ap (λ (w : List ℕ). w ∷ later) (append-nil (take (i - start) (drop start line)) ∙ sym is) in
    let rest : glued (take (i + 1 - (i + 1)) (drop (i + 1) line)) later ≡ later = ap (λ k. glued (take k (drop (i + 1) line)) later) none ∙ glued-none (drop (i + 1) line) in
    record {
      order = omega arith;
      parts = ap (λ (x : List (List ℕ)). (ws ++ word ∷ []) ++ x) rest ∙ append_assoc ws (word ∷ []) later ∙ ap (λ (x : List (List ℕ)). ws ++ x) (sym glue) ∙ h.parts;
    }

pub parted_other : (line : List ℕ) (start i : ℕ) (ws : List (List ℕ)) → HasParted line start i ws → i < length line → get_or line i 0 ≢ 32 → HasParted line start (i + 1) ws
parted_other line start i ws h inside at =
    let n : ℕ = i - start in
    let front : drop i line ≡ get_or line i 0 ∷ drop (suc i) line = drop-cons line i 0 inside in
    let next : words_of (drop i line) ≡ with_first (get_or line i 0) (words_of (drop (i + 1) line)) =
    ap words_of front ∙ words_of-other (get_or line i 0) (drop (suc i) line) at ∙ ap (λ k. with_first (get_or line i 0) (words_of (drop k line))) (sym (add-one i)) in
    let order = h.order in
    let place : start + (i - start) ≡ i = omega (arith, order) in
    let within : i - start < length (drop start line) = omega (arith, order, inside, length-drop start line) in
    let same : get_or (drop start line) (i - start) 0 ≡ get_or line i 0 = get_or-drop start line (i - start) 0 ∙ ap (λ k. get_or line k 0) place in
    let count : i + 1 - start ≡ i - start + 1 = omega (arith, order) in
    let longer : take (i + 1 - start) (drop start line) ≡ take (i - start) (drop start line) ++ (get_or line i 0 ∷ []) =
    ap (λ k. take k (drop start line)) count ∙ take_more (drop start line) (i - start) 0 within ∙ ap (λ (x : ℕ). take (i - start) (drop start line) ++ (x ∷ [])) same in
    let glue : glued (take (i + 1 - start) (drop start line)) (words_of (drop (i + 1) line)) ≡ glued (take (i - start) (drop start line)) (words_of (drop i line)) =
    ap (λ (x : List ℕ). glued x (words_of (drop (i + 1) line))) longer
    ∙ sym (glued-other (take (i - start) (drop start line)) (get_or line i 0) (words_of (drop (i + 1) line))) ∙ ap (glued (take (i - start) (drop start line))) (sym next) in
    record { order = omega (arith, order); parts = ap (λ (x : List (List ℕ)). ws ++ x) glue ∙ h.parts }

pub parted_end : (line : List ℕ) (start i : ℕ) (ws : List (List ℕ)) → HasParted line start i ws → length line ≤ i → ws ++ drop start line ∷ [] ≡ words_of line
parted_end line start i ws h end =
    let order = h.order in
    let last : words_of (drop i line) ≡ [] ∷ [] = ap words_of (drop_all i line end) ∙ words_of-nil in
    let whole : take (i - start) (drop start line) ≡ drop start line = take_all (i - start) (drop start line) (omega (arith, order, end, length-drop start line)) in
    let glue : glued (take (i - start) (drop start line)) (words_of (drop i line)) ≡ drop start line ∷ [] =
    ap (glued (take (i - start) (drop start line))) last ∙ ap (λ (w : List ℕ). w ∷ []) (append-nil (take (i - start) (drop start line)) ∙ whole) in
    ap (λ (x : List (List ℕ)). ws ++ x) (sym glue) ∙ h.parts

pub pushed_space : (line : List ℕ) (start i : ℕ) (ws : List Word) (x : Word) → HasParted line start i (texts ws) → i < length line → get_or line i 0 ≡ 32
    → x.now ≡ take (i - start) (drop start line) → HasParted line (i + 1) (i + 1) (texts (ws ++ x ∷ []))
pushed_space line start i ws x h inside at is =
    subst (λ (ts : List (List ℕ)). HasParted line (i + 1) (i + 1) ts) (sym (map-append (λ (w : Word). w.now) ws (x ∷ []))) (parted_space line start i (texts ws) x.now h inside at is)

pub pushed_end : (line : List ℕ) (start i : ℕ) (ws : List Word) (x : Word) → HasParted line start i (texts ws) → length line ≤ i
    → x.now ≡ take (length line - start) (drop start line) → texts (ws ++ x ∷ []) ≡ words_of line
pushed_end line start i ws x h end is =
    let whole : take (length line - start) (drop start line) ≡ drop start line = take_all (length line - start) (drop start line) (omega (arith, length-drop start line)) in
    map-append (λ (w : Word). w.now) ws (x ∷ []) ∙ ap (λ (l : List ℕ). texts ws ++ (l ∷ [])) (is ∙ whole) ∙ parted_end line start i (texts ws) h end

-- ---- words of a known number

pub one_text : (ws : List Word) → 1 ≤ length ws → length ws < 2 → texts ws ≡ (get_or ws 0 blank).now ∷ []
one_text [] h k = absurd (omega (arith, h))
one_text (a ∷ []) h k = refl
one_text (a ∷ b ∷ ws) h k = absurd (omega (arith, k))

pub two_texts : (ws : List Word) → 2 ≤ length ws → length ws < 3 → texts ws ≡ (get_or ws 0 blank).now ∷ (get_or ws 1 blank).now ∷ []
two_texts [] h k = absurd (omega (arith, h))
two_texts (a ∷ []) h k = absurd (omega (arith, h))
two_texts (a ∷ b ∷ []) h k = refl
two_texts (a ∷ b ∷ d ∷ ws) h k = absurd (omega (arith, k))

pub three_texts : (ws : List Word) → 3 ≤ length ws → length ws < 4 → texts ws ≡ (get_or ws 0 blank).now ∷ (get_or ws 1 blank).now ∷ (get_or ws 2 blank).now ∷ []
three_texts [] h k = absurd (omega (arith, h))
three_texts (a ∷ []) h k = absurd (omega (arith, h))
three_texts (a ∷ b ∷ []) h k = absurd (omega (arith, h))
three_texts (a ∷ b ∷ d ∷ []) h k = refl
three_texts (a ∷ b ∷ d ∷ e ∷ ws) h k = absurd (omega (arith, k))

pub four_texts : (ws : List Word) → 4 ≤ length ws → length ws < 5
    → texts ws ≡ (get_or ws 0 blank).now ∷ (get_or ws 1 blank).now ∷ (get_or ws 2 blank).now ∷ (get_or ws 3 blank).now ∷ []
four_texts [] h k = absurd (omega (arith, h))
four_texts (a ∷ []) h k = absurd (omega (arith, h))
four_texts (a ∷ b ∷ []) h k = absurd (omega (arith, h))
four_texts (a ∷ b ∷ d ∷ []) h k = absurd (omega (arith, h))
four_texts (a ∷ b ∷ d ∷ e ∷ []) h k = refl
four_texts (a ∷ b ∷ d ∷ e ∷ f ∷ ws) h k = absurd (omega (arith, k))

pub more_texts : (ws : List Word) → 1 ≤ length ws → texts ws ≡ (get_or ws 0 blank).now ∷ texts (drop 1 ws)
more_texts [] h = absurd (omega (arith, h))
more_texts (a ∷ ws) h = refl
