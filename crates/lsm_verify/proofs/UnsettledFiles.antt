-- Which files' ages ranges and sequences alone do not settle.
use Rattle.std.proofs.Common.{◌≡◌, ℕ, zero, suc, ◌+◌, ◌<◌, ◌≤◌, false, List, [], ◌∷◌, ◌++◌, length, get_or, take, map, refl, sym, ◌∙◌, ap, subst, inl, inr, arith}
use Rattle.std.specs.Prelude.{◌⊎◌}
use Rattle.std.specs.List.Sorted.{IsPermutation}
use Rattle.std.proofs.lemmas.Bool.{cases_lt, cases_eq}
use Rattle.std.proofs.lemmas.List.{take_all}
use Rattle.std.proofs.lemmas.List.Sorted.{Contains-permutation, IsPermutation-sym}
use Rattle.lsm_codec.specs.Lists.{Has}
use Rattle.lsm_codec.specs.Keys.{UserKey, UserLe}
use Rattle.lsm_codec.specs.Entries.{Entry}
use Rattle.lsm_codec.proofs.CallerLemmas.{has_left, has_right, has_cases, contains_from, contains_says, user_le_trans}
use Rattle.lsm_table.specs.Registry.{Table}
use Rattle.lsm_table.specs.HeldTable.{entries_in}
use Rattle.lsm_model.specs.Files.{File, Fits, Meets, Shallower}
use Rattle.lsm_version.specs.Reads.{IsRising, begins_by, reaches}
use Rattle.lsm_verify.specs.Settled.{KeepsAge, Reaches, IsUnsettled, IsSettled, AreSequencesOf, AreSequences, AreLevelSequences, Adds, OnePair, OneAgainst, Between, OneBelow, SomeBelow, EachBelow, Both}
use Rattle.lsm_verify.specs.declared.sequences.Sequences.{Sequences}
use Rattle.lsm_version.specs.Versions.{file_of, files_of, files_from, level_in, user_of}
use Rattle.lsm_version.proofs.CallerLemmas.{has_files, file_in, inside, of_level, files_push, push_left, push_last, took}

-- ---- the law on two files

-- two files with an entry of one user key meet
pub meets_by : (F G : File) (x y : Entry) → Fits F → Fits G → Has F.entries x → Has G.entries y → x.user ≡ y.user → Meets F G.low G.high
meets_by F G x y f g kx ky same = (
  user_le_trans F.low x.user G.high (f.above x kx) (subst (λ (k : UserKey). UserLe k G.high) (sym same) (g.below y ky)),
  user_le_trans G.low y.user F.high (g.above y ky) (subst (λ (k : UserKey). UserLe k F.high) same (f.below x kx)),
)

-- files of which no two are unsettled keep the age order
pub settled_keeps : (v : List File) → ((F : File) → Has v F → Fits F) → IsSettled v → KeepsAge v
settled_keeps v fits settled F G x y hF hG s kx ky same = elim (cases_lt y.seq x.seq) [
  | inl lt ↦ lt
  | inr le ↦ absurd (settled F G hF hG (s, meets_by F G x y (fits F hF) (fits G hG) kx ky same, (x, y, kx, ky, le)))
]

-- ---- the test of two tables

pub reach_sequences : (F G : File) (s r : Sequences) → AreSequencesOf F.entries s → AreSequencesOf G.entries r → Reaches F G → s.least ≤ r.greatest
reach_sequences F G s r a b (x, y, hx, hy, le) = let low = a.above x hx in let high = b.below y hy in omega arith

-- ---- what is added

pub adds_none : (Q : File → File → Type 0) (ns : List ℕ) → ((X Y : File) → Q X Y → IsUnsettled X Y → ⊥) → Adds Q ns ns
adds_none Q ns none = record {
  kept = λ n h. h;
  first = λ X Y q u. absurd (none X Y q u);
  second = λ X Y q u. absurd (none X Y q u);
  said = λ n h. inl h;
}

pub adds_then : (Q R P : File → File → Type 0) (a b c : List ℕ) → Adds Q a b → Adds R b c → ((X Y : File) → P X Y → IsUnsettled X Y → Q X Y ⊎ R X Y)
    → ((X Y : File) → Q X Y → P X Y) → ((X Y : File) → R X Y → P X Y) → Adds P a c
adds_then Q R P a b c q r split left right = record {
  kept = λ n h. r.kept n (q.kept n h);
  first = λ X Y p u. elim (split X Y p u) [ inl l ↦ r.kept X.number (q.first X Y l u) | inr l ↦ r.first X Y l u ];
  second = λ X Y p u. elim (split X Y p u) [ inl l ↦ r.kept Y.number (q.second X Y l u) | inr l ↦ r.second X Y l u ];
  said = λ n h. elim (r.said n h) [
    | inl before ↦ elim (q.said n before) [
      | inl old ↦ inl old
      | inr (X, Y, l, u, e) ↦ inr (X, Y, left X Y l, u, e)
    ]
    | inr (X, Y, l, u, e) ↦ inr (X, Y, right X Y l, u, e)
  ];
}

pub adds_as : (Q P : File → File → Type 0) (a b : List ℕ) → Adds Q a b → ((X Y : File) → P X Y → IsUnsettled X Y → Q X Y) → ((X Y : File) → Q X Y → P X Y) → Adds P a b
adds_as Q P a b q from to = record {
  kept = q.kept;
  first = λ X Y p u. q.first X Y (from X Y p u) u;
  second = λ X Y p u. q.second X Y (from X Y p u) u;
  said = λ n h. elim (q.said n h) [ inl old ↦ inl old | inr (X, Y, l, u, e) ↦ inr (X, Y, to X Y l, u, e) ];
}

pub adds_pair : (F G : File) (old new : List ℕ) → IsUnsettled F G → new ≡ (old ++ F.number ∷ []) ++ G.number ∷ [] → Adds (OnePair F G) old new
adds_pair F G old new u is = record {
  kept = λ n h. at n (has_left (old ++ F.number ∷ []) (G.number ∷ []) n (has_left old (F.number ∷ []) n h));
  first = λ X Y q w. at X.number (has_left (old ++ F.number ∷ []) (G.number ∷ []) X.number (has_right old (F.number ∷ []) X.number (inl (ap (λ (H : File). H.number) (sym q.0)))));
  second = λ X Y q w. at Y.number (has_right (old ++ F.number ∷ []) (G.number ∷ []) Y.number (inl (ap (λ (H : File). H.number) (sym q.1))));
  said = λ n h. elim (has_cases (old ++ F.number ∷ []) (G.number ∷ []) n (subst (λ (ns : List ℕ). Has ns n) is h)) [
    | inl a ↦ elim (has_cases old (F.number ∷ []) n a) [
      | inl o ↦ inl o
      | inr f ↦ elim f [ inl e ↦ inr (F, G, (refl, refl), u, inl (sym e)) | inr none ↦ absurd none ]
    ]
    | inr g ↦ elim g [ inl e ↦ inr (F, G, (refl, refl), u, inr (sym e)) | inr none ↦ absurd none ]
  ];
}
  where
    at : (n : ℕ) → Has ((old ++ F.number ∷ []) ++ G.number ∷ []) n → Has new n
    at n h = subst (λ (ns : List ℕ). Has ns n) (sym is) h

-- ---- one table more of a level

pub against_more : (F : File) (n : ℕ) (ts : List Table) (i : ℕ) (x : Table) (a b c : List ℕ) → i < length ts → x ≡ get_or ts i x
    → Adds (OneAgainst F n (take i ts)) a b → Adds (OnePair F (file_of n x)) b c → Adds (OneAgainst F n (take (i + 1) ts)) a c
against_more F n ts i x a b c lt is q r = adds_then (OneAgainst F n (take i ts)) (OnePair F (file_of n x)) (OneAgainst F n (take (i + 1) ts)) a b c q r
    (λ X Y p u. elim (files_push n (take i ts) x Y (subst (λ (us : List Table). Has (files_of n us) Y) (took ts i x lt is) p.1)) [ inl l ↦ inl (p.0, l) | inr e ↦ inr (p.0, sym e) ])
    (λ X Y p. (p.0, subst (λ (us : List Table). Has (files_of n us) Y) (sym (took ts i x lt is)) (push_left n (take i ts) x Y p.1)))
    (λ X Y p. (p.0, subst (λ (us : List Table). Has (files_of n us) Y) (sym (took ts i x lt is)) (subst (λ (Z : File). Has (files_of n (take i ts ++ x ∷ [])) Z) (sym p.1) (push_last n (take i ts) x))))

-- a file of the front stands at a place in it
front_at : (n : ℕ) (ts : List Table) (i : ℕ) (Y : File) (d : Table) → Has (files_of n (take i ts)) Y → (j : ℕ) × (j < i) × (j < length ts) × (file_of n (get_or ts j d) ≡ Y)
front_at n ts zero Y d h = absurd h
front_at n [] (suc i) Y d h = absurd h
front_at n (t ∷ ts) (suc i) Y d (inl e) = (zero, omega arith, omega arith, e)
front_at n (t ∷ ts) (suc i) Y d (inr h) = (let r = front_at n ts i Y d h in (suc r.0, (let lt = r.1 in omega arith), (let lt = r.2 in omega arith), r.3))

all_at : (n : ℕ) (ts : List Table) (Y : File) (d : Table) → Has (files_of n ts) Y → (j : ℕ) × (j < length ts) × (file_of n (get_or ts j d) ≡ Y)
all_at n [] Y d h = absurd h
all_at n (t ∷ ts) Y d (inl e) = (zero, omega arith, e)
all_at n (t ∷ ts) Y d (inr h) = (let r = all_at n ts Y d h in (suc r.0, (let lt = r.1 in omega arith), r.2))

at_front : (n : ℕ) (ts : List Table) (i j : ℕ) (d : Table) → j < i → j < length ts → Has (files_of n (take i ts)) (file_of n (get_or ts j d))
at_front n ts zero j d lt inside = absurd (omega arith)
at_front n [] (suc i) j d lt inside = absurd (omega arith)
at_front n (t ∷ ts) (suc i) zero d lt inside = inl refl
at_front n (t ∷ ts) (suc i) (suc j) d lt inside = inr (at_front n ts i j d (omega arith) (omega arith))

front_all : (n : ℕ) (ts : List Table) (i : ℕ) (Y : File) → Has (files_of n (take i ts)) Y → Has (files_of n ts) Y
front_all n ts zero Y h = absurd h
front_all n [] (suc i) Y h = absurd h
front_all n (t ∷ ts) (suc i) Y (inl e) = inl e
front_all n (t ∷ ts) (suc i) Y (inr h) = inr (front_all n ts i Y h)

-- what ends before a file begins is settled with it
pub against_start : (m n : ℕ) (t : Table) (ts : List Table) (i : ℕ) (ns : List ℕ) → ((j : ℕ) (d : Table) → j < i → reaches (get_or ts j d) (user_of t.smallest) ≡ false)
    → Adds (OneAgainst (file_of m t) n (take i ts)) ns ns
against_start m n t ts i ns before = adds_none (OneAgainst (file_of m t) n (take i ts)) ns (λ X Y q u.
    (let r = front_at n ts i Y t q.1 in
    let short = before r.0 t r.1 in
    let meets : UserLe (file_of m t).low Y.high = subst (λ (Z : File). UserLe Z.low Y.high) q.0 u.1.0 in
    let reached : UserLe (file_of m t).low (file_of n (get_or ts r.0 t)).high = subst (λ (Z : File). UserLe (file_of m t).low Z.high) (sym r.3) meets in
    absurd (cc (short, reached))))

-- and so is what begins behind its end, where the tables rise
pub against_rest : (m n : ℕ) (t : Table) (ts : List Table) (i : ℕ) (x : Table) (a b : List ℕ) → IsRising ts → i < length ts → x ≡ get_or ts i x → begins_by x (user_of t.largest) ≡ false
    → Adds (OneAgainst (file_of m t) n (take i ts)) a b → Adds (OneAgainst (file_of m t) n ts) a b
against_rest m n t ts i x a b rises lt is late q = adds_as (OneAgainst (file_of m t) n (take i ts)) (OneAgainst (file_of m t) n ts) a b q from (λ X Y p. (p.0, front_all n ts i Y p.1))
  where
    from : (X Y : File) → OneAgainst (file_of m t) n ts X Y → IsUnsettled X Y → OneAgainst (file_of m t) n (take i ts) X Y
    from X Y p u =
        let r = all_at n ts Y x p.1 in
        elim (cases_lt r.0 i) [
          | inl before ↦ (p.0, subst (λ (Z : File). Has (files_of n (take i ts)) Z) r.2 (at_front n ts i r.0 x before r.1))
          | inr after ↦ (let low = rises.lows i r.0 x after r.1 in
              let here : UserLe (user_of x.smallest) (user_of (get_or ts r.0 x).smallest) = subst (λ (y : Table). UserLe (user_of y.smallest) (user_of (get_or ts r.0 x).smallest)) (sym is) low in
              let meets : UserLe Y.low (file_of m t).high = subst (λ (Z : File). UserLe Y.low Z.high) p.0 u.1.1 in
              let there : UserLe (user_of (get_or ts r.0 x).smallest) (user_of t.largest) = subst (λ (Z : File). UserLe Z.low (user_of t.largest)) (sym r.2) meets in
              let both = user_le_trans (user_of x.smallest) (user_of (get_or ts r.0 x).smallest) (user_of t.largest) here there in
              absurd (cc (late, both)))
        ]

pub against_whole : (F : File) (n : ℕ) (ts : List Table) (i : ℕ) (a b : List ℕ) → length ts ≤ i → Adds (OneAgainst F n (take i ts)) a b → Adds (OneAgainst F n ts) a b
against_whole F n ts i a b past q = subst (λ (us : List Table). Adds (OneAgainst F n us) a b) (take_all i ts past) q

-- ---- one level more

pub below_start : (F : File) (m k : ℕ) (levels : List (List Table)) (ns : List ℕ) → ((G : File) → Between m k levels G → IsUnsettled F G → ⊥) → Adds (OneBelow F m k levels) ns ns
below_start F m k levels ns none = adds_none (OneBelow F m k levels) ns (λ X Y q u. none Y q.1 (subst (λ (Z : File). IsUnsettled Z Y) q.0 u))

between_more : (m k : ℕ) (levels : List (List Table)) (Y : File) → Between m (k + 1) levels Y → Between m k levels Y ⊎ Has (files_of k (level_in levels k)) Y
between_more m k levels Y (n, lo, hi, h) = elim (cases_eq n k) [
  | inl e ↦ inr (subst (λ (j : ℕ). Has (files_of j (level_in levels j)) Y) e h)
  | inr ne ↦ inl (n, lo, omega arith, h)
]

pub below_more : (F : File) (m k : ℕ) (levels : List (List Table)) (us : List Table) (a b c : List ℕ) → m ≤ k → level_in levels k ≡ us
    → Adds (OneBelow F m k levels) a b → Adds (OneAgainst F k us) b c → Adds (OneBelow F m (k + 1) levels) a c
below_more F m k levels us a b c le is q r = adds_then (OneBelow F m k levels) (OneAgainst F k us) (OneBelow F m (k + 1) levels) a b c q r
    (λ X Y p u. elim (between_more m k levels Y p.1) [ inl l ↦ inl (p.0, l) | inr h ↦ inr (p.0, subst (λ (ts : List Table). Has (files_of k ts) Y) is h) ])
    (λ X Y p. (p.0, (p.1.0, p.1.1, (let hi = p.1.2 in omega arith), p.1.3)))
    (λ X Y p. (p.0, (k, le, omega arith, subst (λ (ts : List Table). Has (files_of k ts) Y) (sym is) p.1)))

-- ---- one table more against all below

pub some_more : (m : ℕ) (ts : List Table) (levels : List (List Table)) (i : ℕ) (x : Table) (a b c : List ℕ) → i < length ts → x ≡ get_or ts i x
    → Adds (SomeBelow m (take i ts) levels) a b → Adds (OneBelow (file_of m x) m (length levels) levels) b c → Adds (SomeBelow m (take (i + 1) ts) levels) a c
some_more m ts levels i x a b c lt is q r = adds_then (SomeBelow m (take i ts) levels) (OneBelow (file_of m x) m (length levels) levels) (SomeBelow m (take (i + 1) ts) levels) a b c q r
    (λ X Y p u. elim (files_push m (take i ts) x X (subst (λ (us : List Table). Has (files_of m us) X) (took ts i x lt is) p.0)) [ inl l ↦ inl (l, p.1) | inr e ↦ inr (sym e, p.1) ])
    (λ X Y p. (subst (λ (us : List Table). Has (files_of m us) X) (sym (took ts i x lt is)) (push_left m (take i ts) x X p.0), p.1))
    (λ X Y p. (subst (λ (us : List Table). Has (files_of m us) X) (sym (took ts i x lt is)) (subst (λ (Z : File). Has (files_of m (take i ts ++ x ∷ [])) Z) (sym p.0) (push_last m (take i ts) x)), p.1))

pub some_whole : (m : ℕ) (ts us : List Table) (levels : List (List Table)) (i : ℕ) (a b : List ℕ) → length ts ≤ i → ts ≡ us → Adds (SomeBelow m (take i ts) levels) a b → Adds (SomeBelow m us levels) a b
some_whole m ts us levels i a b past is q = subst (λ (vs : List Table). Adds (SomeBelow m vs levels) a b) (take_all i ts past ∙ is) q

-- ---- all levels

pub each_none : (levels : List (List Table)) (ns : List ℕ) → Adds (EachBelow 0 levels) ns ns
each_none levels ns = adds_none (EachBelow 0 levels) ns (λ X Y q u. (let lt = q.1 in absurd (omega arith)))

pub each_more : (k : ℕ) (levels : List (List Table)) (a b c : List ℕ) → Adds (EachBelow k levels) a b → Adds (SomeBelow k (level_in levels k) levels) b c → Adds (EachBelow (k + 1) levels) a c
each_more k levels a b c q r = adds_then (EachBelow k levels) (SomeBelow k (level_in levels k) levels) (EachBelow (k + 1) levels) a b c q r
    (λ X Y p u. elim (cases_eq p.0 k) [
      | inl e ↦ inr (subst (λ (n : ℕ). SomeBelow n (level_in levels n) levels X Y) e p.2)
      | inr ne ↦ inl (p.0, (let lt = p.1 in omega arith), p.2)
    ])
    (λ X Y p. (p.0, (let lt = p.1 in omega arith), p.2))
    (λ X Y p. (k, omega arith, p))

pub each_whole : (k : ℕ) (levels : List (List Table)) (a b : List ℕ) → length levels ≤ k → Adds (EachBelow k levels) a b → Adds (Both (files_from 0 levels)) a b
each_whole k levels a b past q = adds_as (EachBelow k levels) (Both (files_from 0 levels)) a b q from to
  where
    level_of : (X : File) → Has (files_from 0 levels) X → (n : ℕ) × (n ≡ X.level) × (n < length levels) × Has (files_of n (level_in levels n)) X
    level_of X h = (let r = file_in 0 levels X h in (
      r.0,
      (let e = ap (λ (F : File). F.level) r.3 in omega arith),
      inside levels r.0 r.1 r.2,
      (let here : r.0 ≡ 0 + r.0 = omega arith in
          subst (Has (files_of r.0 (level_in levels r.0))) (ap (λ (m : ℕ). file_of m r.1) here ∙ r.3) (has_files r.0 (level_in levels r.0) r.1 r.2)),
    ))

    not_above : (X Y : File) → Shallower X Y → X.level ≤ Y.level
    not_above X Y (inl lt) = omega arith
    not_above X Y (inr (a, b, c)) = omega arith

    from : (X Y : File) → Both (files_from 0 levels) X Y → IsUnsettled X Y → EachBelow k levels X Y
    from X Y p u =
        let x = level_of X p.0 in
        let y = level_of Y p.1 in
        let le = not_above X Y u.0 in
        let ex = x.1 in
        let ey = y.1 in
        let lx = x.2 in
        (x.0, omega arith, (x.3, (y.0, omega arith, y.2, y.3)))

    to : (X Y : File) → EachBelow k levels X Y → Both (files_from 0 levels) X Y
    to X Y (n, lt, (hX, (m, lo, hi, hY))) = (of_level levels n X hX, of_level levels m Y hY)

-- ---- the numbers in another order

pub adds_sorted : (Q : File → File → Type 0) (a b c : List ℕ) → IsPermutation b c → Adds Q a b → Adds Q a c
adds_sorted Q a b c p q = record {
  kept = λ n h. to n (q.kept n h);
  first = λ X Y l u. to X.number (q.first X Y l u);
  second = λ X Y l u. to Y.number (q.second X Y l u);
  said = λ n h. q.said n (from n h);
}
  where
    to : (n : ℕ) → Has b n → Has c n
    to n h = contains_says c n (Contains-permutation b c n p (contains_from b n h))

    from : (n : ℕ) → Has c n → Has b n
    from n h = contains_says b n (Contains-permutation c b n (IsPermutation-sym b c p) (contains_from c n h))

-- ---- sequences at a place

pub sequences_at : (ts : List Table) (ss : List Sequences) (i : ℕ) (t : Table) (d : Sequences) → AreSequences ts ss → i < length ts → t ≡ get_or ts i t → AreSequencesOf (entries_in t.image) (get_or ss i d)
sequences_at [] ss i t d a lt it = absurd (omega arith)
sequences_at (u ∷ ts) [] i t d a lt it = absurd a
sequences_at (u ∷ ts) (r ∷ ss) zero t d a lt it = subst (λ (x : Table). AreSequencesOf (entries_in x.image) r) (sym it) a.0
sequences_at (u ∷ ts) (r ∷ ss) (suc i) t d a lt it = sequences_at ts ss i t d a.1 (omega arith) it

pub level_sequences_at : {X Y : Type 0} (f : X → List Table) (g : Y → List Sequences) (xs : List X) (ys : List Y) (i : ℕ) (x : X) (y : Y) → AreLevelSequences (map f xs) (map g ys)
    → i < length xs → x ≡ get_or xs i x → y ≡ get_or ys i y → AreSequences (f x) (g y)
level_sequences_at f g [] ys i x y a lt ix iy = absurd (omega arith)
level_sequences_at f g (z ∷ xs) [] i x y a lt ix iy = absurd a
level_sequences_at f g (z ∷ xs) (w ∷ ys) zero x y a lt ix iy = subst (λ v. AreSequences (f v) (g y)) (sym ix) (subst (λ v. AreSequences (f z) (g v)) (sym iy) a.0)
level_sequences_at f g (z ∷ xs) (w ∷ ys) (suc i) x y a lt ix iy = level_sequences_at f g xs ys i x y a.1 (omega arith) ix iy

pub levels_long : {X Y : Type 0} (f : X → List Table) (g : Y → List Sequences) (xs : List X) (ys : List Y) → AreLevelSequences (map f xs) (map g ys) → length ys ≡ length xs
levels_long f g [] [] a = refl
levels_long f g [] (y ∷ ys) a = absurd a
levels_long f g (x ∷ xs) [] a = absurd a
levels_long f g (x ∷ xs) (y ∷ ys) a = ap suc (levels_long f g xs ys a.1)
