-- A text's part before the first separator, and the part after it.
use Rattle.std.proofs.Common.{◌≡◌, ◌≢◌, ℕ, zero, suc, ◌+◌, ◌<◌, ◌≤◌, List, [], ◌∷◌, ◌++◌, length, get_or, take, drop, Option, Some, None, refl, sym, ap, ◌∙◌, append_assoc, append-nil, add-one, arith, inl, inr, drop-cons}
use Rattle.std.proofs.lemmas.Bool.{cases_eq, ne_eqb}
use Rattle.std.proofs.lemmas.List.{take_more, drop_all}
use Rattle.lsm_text.specs.EntryList.{with_first, lines_of}
use Rattle.lsm_text.specs.EntryReading.{behind, parts_at}

behind-append : (xs ys : List ℕ) (o : Option (List ℕ × List ℕ)) → behind xs (behind ys o) ≡ behind (xs ++ ys) o
behind-append xs ys None = refl
behind-append xs ys (Some p) = simp append_assoc

pub parts_at-separator : (separator c : ℕ) (cs : List ℕ) → c ≡ separator → parts_at separator (c ∷ cs) ≡ Some ([], cs)
unfolding parts_at
parts_at-separator separator c cs e = grind (arith)

pub parts_at-other : (separator c : ℕ) (cs : List ℕ) → c ≢ separator → parts_at separator (c ∷ cs) ≡ behind (c ∷ []) (parts_at separator cs)
unfolding parts_at
parts_at-other separator c cs n = grind (arith)

-- ---- the first place of a text that is the separator

step_found : (separator : ℕ) (text : List ℕ) (i : ℕ) → i < length text → get_or text i 0 ≡ separator
    → behind (take i text) (parts_at separator (drop i text)) ≡ Some (take i text, drop (i + 1) text)
step_found separator text i h e =
    let front : drop i text ≡ get_or text i 0 ∷ drop (suc i) text = drop-cons text i 0 h in
    rw (front, parts_at-separator separator (get_or text i 0) (drop (suc i) text) e) (simp (add-one, append-nil) refl)

step_other : (separator : ℕ) (text : List ℕ) (i : ℕ) → i < length text → get_or text i 0 ≢ separator
    → behind (take i text) (parts_at separator (drop i text)) ≡ behind (take (i + 1) text) (parts_at separator (drop (i + 1) text))
step_other separator text i h n =
    let front : drop i text ≡ get_or text i 0 ∷ drop (suc i) text = drop-cons text i 0 h in
    ap (λ (xs : List ℕ). behind (take i text) (parts_at separator xs)) front
    ∙ ap (behind (take i text)) (parts_at-other separator (get_or text i 0) (drop (suc i) text) n)
    ∙ behind-append (take i text) (get_or text i 0 ∷ []) (parts_at separator (drop (suc i) text))
    ∙ rw (take_more text i 0 h, add-one) refl

step_end : (separator : ℕ) (text : List ℕ) (i : ℕ) → length text ≤ i → behind (take i text) (parts_at separator (drop i text)) ≡ None
unfolding parts_at
step_end separator text i h = rw (drop_all i text h) refl

behind-nothing : (o : Option (List ℕ × List ℕ)) → behind [] o ≡ o
behind-nothing None = refl
behind-nothing (Some p) = refl

-- so many places are no separator
abbrev pub NoneBelow : ℕ → List ℕ → ℕ → Type 0
NoneBelow separator text i = (k : ℕ) → k < i → get_or text k 0 ≢ separator

passed : (separator : ℕ) (text : List ℕ) (i : ℕ) → i ≤ length text → NoneBelow separator text i
    → parts_at separator text ≡ behind (take i text) (parts_at separator (drop i text))
passed separator text zero h none = sym (behind-nothing (parts_at separator text))
passed separator text (suc i) h none =
    passed separator text i (omega arith) (λ k below. none k (omega arith))
    ∙ step_other separator text i (omega arith) (none i (omega arith))
    ∙ ap (λ (j : ℕ). behind (take j text) (parts_at separator (drop j text))) (add-one i)

pub parts_found : (separator : ℕ) (text : List ℕ) (i : ℕ) → i < length text → NoneBelow separator text i → get_or text i 0 ≡ separator
    → parts_at separator text ≡ Some (take i text, drop (i + 1) text)
parts_found separator text i h none there = passed separator text i (omega arith) none ∙ step_found separator text i h there

pub parts_absent : (separator : ℕ) (text : List ℕ) → NoneBelow separator text (length text) → parts_at separator text ≡ None
parts_absent separator text none = passed separator text (length text) (omega arith) none ∙ step_end separator text (length text) (omega arith)

-- ---- a text in two parts

-- no place of the list is the separator
abbrev pub HasNo : ℕ → List ℕ → Type 0
HasNo separator [] = Unit {0}
HasNo separator (c ∷ cs) = (c ≢ separator) × HasNo separator cs

pub HasNo-append : (separator : ℕ) (xs ys : List ℕ) → HasNo separator xs → HasNo separator ys → HasNo separator (xs ++ ys)
HasNo-append separator [] ys h k = k
HasNo-append separator (c ∷ cs) ys h k = (h.0, HasNo-append separator cs ys h.1 k)

some_behind : (c : ℕ) (o : Option (List ℕ × List ℕ)) (p : List ℕ × List ℕ) → behind (c ∷ []) o ≡ Some p
    → (q : List ℕ × List ℕ) × (o ≡ Some q) × ((c ∷ q.0, q.1) ≡ p)
some_behind c None p h = absurd cc
some_behind c (Some q) p h = (q, refl, cc)

pub parts_take : (separator : ℕ) (text : List ℕ) (p : List ℕ × List ℕ) → parts_at separator text ≡ Some p
    → (text ≡ p.0 ++ (separator ∷ p.1)) × HasNo separator p.0
unfolding parts_at
parts_take separator [] p h = absurd cc
parts_take separator (c ∷ cs) p h = elim (cases_eq c separator) [
  | inl same ↦
      let e : ([], cs) ≡ p = let s : Some ([], cs) ≡ Some p = sym (parts_at-separator separator c cs same) ∙ h in cc in
      rw (← e) (ap (λ (x : ℕ). x ∷ cs) same, tt)
  | inr other ↦
      let b = some_behind c (parts_at separator cs) p (sym (parts_at-other separator c cs other) ∙ h) in
      let later = parts_take separator cs b.0 b.1 in
      rw (← b.2) (ap (λ (xs : List ℕ). c ∷ xs) later.0, (other, later.1))
]

pub parts_again : (separator : ℕ) (front rest : List ℕ) → HasNo separator front → parts_at separator (front ++ (separator ∷ rest)) ≡ Some (front, rest)
parts_again separator [] rest h = parts_at-separator separator separator rest refl
parts_again separator (c ∷ cs) rest h =
    parts_at-other separator c (cs ++ (separator ∷ rest)) h.0 ∙ ap (behind (c ∷ [])) (parts_again separator cs rest h.1)

-- ---- the first line

parts_at-nil : (separator : ℕ) → parts_at separator [] ≡ None
unfolding parts_at
parts_at-nil separator = refl

pub lines_of-nil : lines_of [] ≡ []
unfolding lines_of
lines_of-nil = refl

pub lines_of-newline : (cs : List ℕ) → lines_of (10 ∷ cs) ≡ [] ∷ lines_of cs
unfolding lines_of
lines_of-newline cs = refl

pub lines_of-other : (c : ℕ) (cs : List ℕ) → c ≢ 10 → lines_of (c ∷ cs) ≡ with_first c (lines_of cs)
unfolding lines_of
lines_of-other c cs n = let test = ne_eqb c 10 n in rw test refl

pub first_line_is : (text : List ℕ) (p : List ℕ × List ℕ) → parts_at 10 text ≡ Some p → lines_of text ≡ p.0 ∷ lines_of p.1
first_line_is [] p h = let bad : None ≡ Some p = sym (parts_at-nil 10) ∙ h in absurd cc
first_line_is (c ∷ cs) p h = elim (cases_eq c 10) [
  | inl same ↦
      let e : ([], cs) ≡ p = let s : Some ([], cs) ≡ Some p = sym (parts_at-separator 10 c cs same) ∙ h in cc in
      ap (λ x. lines_of (x ∷ cs)) same ∙ lines_of-newline cs ∙ ap (λ (q : List ℕ × List ℕ). q.0 ∷ lines_of q.1) e
  | inr other ↦
      let b = some_behind c (parts_at 10 cs) p (sym (parts_at-other 10 c cs other) ∙ h) in
      let later = first_line_is cs b.0 b.1 in
      lines_of-other c cs other ∙ ap (with_first c) later ∙ ap (λ (q : List ℕ × List ℕ). q.0 ∷ lines_of q.1) b.2
]

none_behind : (c : ℕ) (o : Option (List ℕ × List ℕ)) → behind (c ∷ []) o ≡ None → o ≡ None
none_behind c None h = refl
none_behind c (Some q) h = absurd cc

some_none : (p : List ℕ × List ℕ) → Some p ≡ None → ⊥
some_none p h = cc

-- a line in front of the lines of a text without a newline
with_first-only : (c : ℕ) (cs : List ℕ) → parts_at 10 cs ≡ None → with_first c (lines_of cs) ≡ (c ∷ cs) ∷ []
with_first-only c [] h = ap (with_first c) lines_of-nil
with_first-only c (d ∷ ds) h = elim (cases_eq d 10) [
  | inl same ↦ absurd (some_none ([], ds) (sym (parts_at-separator 10 d ds same) ∙ h))
  | inr other ↦
      let none = none_behind d (parts_at 10 ds) (sym (parts_at-other 10 d ds other) ∙ h) in
      ap (with_first c) (lines_of-other d ds other ∙ with_first-only d ds none)
]

pub only_line_is : (text : List ℕ) → 0 < length text → parts_at 10 text ≡ None → lines_of text ≡ text ∷ []
only_line_is [] some h = absurd (omega arith)
only_line_is (c ∷ cs) some h = elim (cases_eq c 10) [
  | inl same ↦ absurd (some_none ([], cs) (sym (parts_at-separator 10 c cs same) ∙ h))
  | inr other ↦
      let none = none_behind c (parts_at 10 cs) (sym (parts_at-other 10 c cs other) ∙ h) in
      lines_of-other c cs other ∙ with_first-only c cs none
]

pub parts_none : (separator : ℕ) (text : List ℕ) → HasNo separator text → parts_at separator text ≡ None
parts_none separator [] h = parts_at-nil separator
parts_none separator (c ∷ cs) h = parts_at-other separator c cs h.0 ∙ ap (behind (c ∷ [])) (parts_none separator cs h.1)
