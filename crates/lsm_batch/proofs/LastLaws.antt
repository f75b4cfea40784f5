-- The last write of each key.
use Rattle.std.proofs.Common.{◌≡◌, zero, suc, ◌+◌, ◌-◌, ◌<◌, ◌≤◌, Bool, true, false, cond, List, [], ◌∷◌, ◌++◌, length, get_or, Option, Some, None, refl, sym, ap, ◌∙◌, subst, inl, inr, arith, append_assoc, append-nil}
use Rattle.std.proofs.Common.{Ordering, Less, Equal, Greater}
use Rattle.std.specs.Prelude.{◌⊎◌, sum_by, slice_get}
use Rattle.std.specs.Option.{option_or}
use Rattle.std.specs.Str.{bytes_eq}
use Rattle.std.specs.Cmp.{IsStrictWeakOrder}
use Rattle.std.specs.Cmp.Lexicographic.{slice_cmp}
use Rattle.std.specs.Ordering.{nat_cmp, is_lt, is_le, is_eq, ordering_reverse}
use Rattle.std.specs.List.{filter}
use Rattle.std.specs.List.Sorted.{IsPermutation, IsSortedBy, IsStableBy, ties}
use Rattle.std.proofs.lemmas.Bool.{cases_Bool}
use Rattle.std.proofs.lemmas.Cmp.{nat_list_cmp_total}
use Rattle.std.proofs.lemmas.List.Sorted.{Contains-permutation, IsPermutation-sym, IsStrictWeakOrder-flip, length_permutation, ranks_by, sum_by-IsPermutation}
use Rattle.std.proofs.lemmas.Map.Text.{is_eq-slice_cmp}
use Rattle.lsm_codec.specs.Keys.{UserKey, UserLe, user_le}
use Rattle.lsm_codec.specs.Lists.{Has}
use Rattle.lsm_codec.proofs.CallerLemmas.{contains_from, contains_says, has_cases, has_left, has_right, key_from_test, slice_cmp-same, test_from_key, user_le_trans}
use Rattle.lsm_batch.specs.Batches.{IsBatch, IsLess, IsTooLarge, KeysRise, size_of}
use Rattle.lsm_batch.specs.declared.write.Write.{Write}
use Rattle.lsm_batch.specs.Falling.{Falls}
use Rattle.lsm_batch.specs.LastWrites.{KeepsLast, last_write, write_at}
use Rattle.lsm_batch.proofs.BatchLaws.{rise_tail}
use Rattle.lsm_batch.proofs.LimitLaws.{bytes_more, few_fit, fits_from, length_more, small_fit}

-- ---- the write at a key

pub write_at-same : (key : UserKey) (w : Write) → w.key ≡ key → write_at key w ≡ Some w
write_at-same key w e = let t = test_from_key w.key key e in rw t refl

other_test : (key : UserKey) (w : Write) → (w.key ≡ key → ⊥) → bytes_eq w.key key ≡ false
other_test key w n = elim (cases_Bool (bytes_eq w.key key)) [ inl t ↦ absurd (n (key_from_test w.key key t)) | inr f ↦ f ]

pub write_at-other : (key : UserKey) (w : Write) → (w.key ≡ key → ⊥) → write_at key w ≡ None
write_at-other key w n = let f = other_test key w n in rw f refl

same_or_other : (a b : UserKey) → (a ≡ b) ⊎ (a ≡ b → ⊥)
same_or_other a b = elim (cases_Bool (bytes_eq a b)) [
  | inl t ↦ inl (key_from_test a b t)
  | inr f ↦ inr (λ e. let bad : true ≡ false = sym (test_from_key a b e) ∙ f in absurd (cc bad))
]

-- ---- the last write of a key

or_none : (o : Option Write) → option_or o None ≡ o
or_none None = refl
or_none (Some w) = refl

or_or : (a b c : Option Write) → option_or a (option_or b c) ≡ option_or (option_or a b) c
or_or None b c = refl
or_or (Some w) b c = refl

-- what comes later goes before
pub last_write-append : (key : UserKey) (xs ys : List Write) → last_write key (xs ++ ys) ≡ option_or (last_write key ys) (last_write key xs)
last_write-append key [] ys = sym (or_none (last_write key ys))
last_write-append key (w ∷ xs) ys =
    ap (λ o. option_or o (write_at key w)) (last_write-append key xs ys)
    ∙ sym (or_or (last_write key ys) (last_write key xs) (write_at key w))

pub last_write-none : (key : UserKey) (ws : List Write) → ((w : Write) → Has ws w → w.key ≡ key → ⊥) → last_write key ws ≡ None
last_write-none key [] n = refl
last_write-none key (w ∷ ws) n =
    ap (λ o. option_or o (write_at key w)) (last_write-none key ws (λ v h. n v (inr h))) ∙ write_at-other key w (n w (inl refl))

-- a key that is written has a last write
pub last_write-some : (key : UserKey) (ws : List Write) (v : Write) → Has ws v → v.key ≡ key → (w : Write) × (last_write key ws ≡ Some w)
last_write-some key [] v h e = absurd h
last_write-some key (w ∷ ws) v (inl same) e = first (last_write key ws)
  where
    here : write_at key w ≡ Some w
    here = write_at-same key w (ap (λ (u : Write). u.key) same ∙ e)

    first : (o : Option Write) → (u : Write) × (option_or o (write_at key w) ≡ Some u)
    first None = (w, here)
    first (Some u) = (u, refl)
last_write-some key (w ∷ ws) v (inr h) e =
    let r = last_write-some key ws v h e in
    (r.0, ap (λ o. option_or o (write_at key w)) r.1)

-- the last write of a key is one of them
pub last_write-has : (key : UserKey) (ws : List Write) (w : Write) → last_write key ws ≡ Some w → Has ws w
last_write-has key [] w e = absurd (cc e)
last_write-has key (v ∷ ws) w e = first (last_write key ws) refl e (λ p. last_write-has key ws w p)
  where
    at : (b : Bool) → (if_it : Option Write) → if_it ≡ cond b (Some v) None → if_it ≡ Some w → v ≡ w
    at true o p q = let z : Some v ≡ Some w = sym p ∙ q in cc
    at false o p q = let z : None ≡ Some w = sym p ∙ q in absurd (cc z)

    first : (o : Option Write) → last_write key ws ≡ o → option_or o (write_at key v) ≡ Some w → (last_write key ws ≡ Some w → Has ws w) → Has (v ∷ ws) w
    first None p q later = inl (at (bytes_eq v.key key) (write_at key v) refl q)
    first (Some u) p q later = inr (later (p ∙ q))

-- a later write of the key is there
pub covered : (key : UserKey) (w v : Write) (batch : List Write) → Has batch v → v.key ≡ w.key → last_write key (w ∷ batch) ≡ last_write key batch
covered key w v batch h e = elim (same_or_other w.key key) [
  | inl same ↦ (let r = last_write-some key batch v h (e ∙ same) in ap (λ o. option_or o (write_at key w)) r.1 ∙ sym r.1)
  | inr other ↦ ap (option_or (last_write key batch)) (write_at-other key w other) ∙ or_none (last_write key batch)
]

-- no other write of the key is there
pub alone : (key : UserKey) (w : Write) (batch : List Write) → ((v : Write) → Has batch v → v.key ≡ w.key → ⊥) → last_write key (w ∷ batch) ≡ last_write key (batch ++ w ∷ [])
alone key w batch n = elim (same_or_other w.key key) [
  | inl same ↦
      let none = last_write-none key batch (λ v h e. n v h (e ∙ sym same)) in
      ap (λ o. option_or o (write_at key w)) none ∙ sym (last_write-append key batch (w ∷ []) ∙ ap (option_or (last_write key (w ∷ []))) none ∙ or_none (write_at key w))
  | inr other ↦
      let none = write_at-other key w other in
      ap (option_or (last_write key batch)) none ∙ or_none (last_write key batch) ∙ sym (last_write-append key batch (w ∷ []) ∙ ap (λ o. option_or o (last_write key batch)) none)
]

-- ---- the order of keys

less_from : (a b : UserKey) → UserLe a b → (a ≡ b → ⊥) → IsLess a b
unfolding user_le
less_from a b le other = at (slice_cmp nat_cmp a b) refl le
  where
    at : (o : Ordering) → slice_cmp nat_cmp a b ≡ o → is_le o ≡ true → slice_cmp nat_cmp a b ≡ Less
    at Less e h = e
    at Equal e h = absurd (other (key_from_test a b (sym (is_eq-slice_cmp a b) ∙ ap is_eq e)))
    at Greater e h = absurd (cc h)

not_same : (a b : UserKey) → IsLess a b → a ≡ b → ⊥
not_same a b less e = let bad : Less ≡ Equal = sym less ∙ slice_cmp-same a b e in absurd (cc bad)

-- each key is less, where no key is greater and the last one is another
pub all_less : (batch : List Write) (w : Write) → KeysRise (length batch) batch → ((v : Write) → Has batch v → UserLe v.key w.key)
    → ((front : List Write) (v : Write) → batch ≡ front ++ v ∷ [] → v.key ≡ w.key → ⊥) → (v : Write) → Has batch v → IsLess v.key w.key
all_less [] w rise low other v h = absurd h
all_less (a ∷ []) w rise low other v (inl same) = subst (λ (u : Write). IsLess u.key w.key) same (less_from a.key w.key (low a (inl refl)) (other [] a refl))
all_less (a ∷ []) w rise low other v (inr h) = absurd h
all_less (a ∷ b ∷ batch) w rise low other v h =
    let later : (u : Write) → Has (b ∷ batch) u → IsLess u.key w.key = all_less (b ∷ batch) w (rise_tail a (b ∷ batch) rise) (λ u k. low u (inr k)) (λ front u e. other (a ∷ front) u (ap (λ (l : List Write). a ∷ l) e)) in
    elim h [
      | inl same ↦ subst (λ (u : Write). IsLess u.key w.key) same (nat_list_cmp_total.trans a.key b.key w.key (rise 0 a (omega arith)) (later b (inl refl)))
      | inr k ↦ later v k
    ]

pub rise_more : (batch : List Write) (w : Write) → KeysRise (length batch) batch → ((v : Write) → Has batch v → IsLess v.key w.key) → KeysRise (length (batch ++ w ∷ [])) (batch ++ w ∷ [])
rise_more [] w rise less i d lt = absurd (omega arith)
rise_more (a ∷ []) w rise less zero d lt = less a (inl refl)
rise_more (a ∷ []) w rise less (suc i) d lt = absurd (omega arith)
rise_more (a ∷ b ∷ batch) w rise less zero d lt = rise 0 d (omega arith)
rise_more (a ∷ b ∷ batch) w rise less (suc i) d lt = rise_more (b ∷ batch) w (rise_tail a (b ∷ batch) rise) (λ v h. less v (inr h)) i d (omega arith)

-- ---- the greatest key first

-- a key that is greater comes first
abbrev pub comes_first : Write → Write → Bool
comes_first x y = is_lt (slice_cmp nat_cmp y.key x.key)

pub comes_first-order : IsStrictWeakOrder comes_first
comes_first-order = IsStrictWeakOrder-flip (λ (x y : Write). is_lt (slice_cmp nat_cmp x.key y.key)) (ranks_by nat_list_cmp_total (λ (w : Write). w.key))

le_from : (a b : UserKey) → is_lt (slice_cmp nat_cmp b a) ≡ false → UserLe a b
unfolding user_le
le_from a b h = at (slice_cmp nat_cmp a b) (slice_cmp nat_cmp b a) (nat_list_cmp_total.antisymm a b) h
  where
    at : (o p : Ordering) → o ≡ ordering_reverse p → is_lt p ≡ false → is_le o ≡ true
    at Less p e h = refl
    at Equal p e h = refl
    at Greater Less e h = absurd (cc h)
    at Greater Equal e h = absurd (cc e)
    at Greater Greater e h = absurd (cc e)

sorted_tail : (w : Write) (ws : List Write) → IsSortedBy comes_first (w ∷ ws) → IsSortedBy comes_first ws
sorted_tail w ws s k d least lt =
    let next : suc k + 1 ≡ suc (k + 1) = omega arith in
    subst (λ n. comes_first (get_or (w ∷ ws) n d) (get_or ws k d) ≡ false) next (s (suc k) d (omega arith) (omega (arith, lt)))

pub falls_from : (ws : List Write) → IsSortedBy comes_first ws → Falls ws
falls_from [] s = tt
falls_from (w ∷ []) s = ((λ v h. absurd h), tt)
falls_from (w ∷ u ∷ ws) s =
    let rest : Falls (u ∷ ws) = falls_from (u ∷ ws) (sorted_tail w (u ∷ ws) s) in
    let next : UserLe u.key w.key = le_from u.key w.key (s 0 w (omega arith) (omega arith)) in (
      (λ v h. elim h [
        | inl same ↦ subst (λ (x : Write). UserLe x.key w.key) same next
        | inr k ↦ user_le_trans v.key u.key w.key (rest.0 v k) next
      ]),
      rest,
    )

pub falls_front : (ws : List Write) (w : Write) → Falls (ws ++ w ∷ []) → Falls ws × ((v : Write) → Has ws v → UserLe w.key v.key)
falls_front [] w f = (tt, λ v h. absurd h)
falls_front (a ∷ ws) w f =
    let rest = falls_front ws w f.1 in (
      ((λ v h. f.0 v (has_left ws (w ∷ []) v h)), rest.0),
      (λ v h. elim h [
        | inl same ↦ subst (λ (x : Write). UserLe w.key x.key) same (f.0 w (has_right ws (w ∷ []) w (inl refl)))
        | inr k ↦ rest.1 v k
      ]),
    )

-- ---- a stable sort

tied : (key : UserKey) (w x : Write) → x.key ≡ key → w.key ≡ key → ties comes_first x w ≡ true
tied key w x e f =
    let one : slice_cmp nat_cmp w.key x.key ≡ Equal = slice_cmp-same w.key x.key (f ∙ sym e) in
    let two : slice_cmp nat_cmp x.key w.key ≡ Equal = slice_cmp-same x.key w.key (e ∙ sym f) in
    rw (one, two) refl

-- those of another key are no matter
filtered : (key : UserKey) (x : Write) → x.key ≡ key → (ws : List Write) → last_write key (filter (ties comes_first x) ws) ≡ last_write key ws
filtered key x e [] = refl
filtered key x e (w ∷ ws) = at (ties comes_first x w) refl (filtered key x e ws)
  where
    at : (b : Bool) → ties comes_first x w ≡ b → last_write key (filter (ties comes_first x) ws) ≡ last_write key ws
        → last_write key (cond b (w ∷ filter (ties comes_first x) ws) (filter (ties comes_first x) ws)) ≡ last_write key (w ∷ ws)
    at true t rest = ap (λ o. option_or o (write_at key w)) rest
    at false t rest =
        let other : w.key ≡ key → ⊥ = λ f. (let bad : true ≡ false = sym (tied key w x e f) ∙ t in absurd (cc bad)) in
        rest ∙ sym (ap (option_or (last_write key ws)) (write_at-other key w other) ∙ or_none (last_write key ws))

pub last_write-sorted : (key : UserKey) (xs ys : List Write) → IsStableBy comes_first xs ys → last_write key ys ≡ last_write key xs
last_write-sorted key xs ys stable =
    let x : Write = record { key = key; value = None } in
    sym (filtered key x refl ys) ∙ ap (last_write key) (stable x) ∙ filtered key x refl xs

-- ---- the batch's end

pub ends_in : (ws : List Write) (w : Write) → Some w ≡ slice_get ws (length ws - 1) → Has ws w
ends_in [] w e = absurd (cc e)
ends_in (a ∷ []) w e = inl (let z : Some w ≡ Some a = e in cc)
ends_in (a ∷ b ∷ ws) w e =
    let next : length (a ∷ b ∷ ws) - 1 ≡ suc (length (b ∷ ws) - 1) = omega arith in
    inr (ends_in (b ∷ ws) w (e ∙ ap (slice_get (a ∷ b ∷ ws)) next))

get_end : (front : List Write) (w : Write) → slice_get (front ++ w ∷ []) (length (front ++ w ∷ []) - 1) ≡ Some w
get_end [] w = refl
get_end (a ∷ front) w =
    let more = length_more front w in
    let next : length (a ∷ (front ++ w ∷ [])) - 1 ≡ suc (length (front ++ w ∷ []) - 1) = omega (arith, more) in
    ap (slice_get (a ∷ (front ++ w ∷ []))) next ∙ get_end front w

pub one_end : (ws front : List Write) (v w : Write) → Some v ≡ slice_get ws (length ws - 1) → ws ≡ front ++ w ∷ [] → v ≡ w
one_end ws front v w at is =
    let z : Some v ≡ Some w = at ∙ ap (λ (l : List Write). slice_get l (length l - 1)) is ∙ get_end front w in
    cc

-- ---- the writes of the greatest keys are in the batch

-- Of these writes some are left, with the greatest key first, and the others are gathered to a batch.
pub record HasKept (all left batch : List Write) : Type 0 where
  pub falls : Falls left
  pub rises : KeysRise (length batch) batch
  pub low : (v u : Write) → Has batch v → Has left u → UserLe v.key u.key
  pub last : (key : UserKey) → last_write key (left ++ batch) ≡ last_write key all
  pub few : length left + length batch ≤ length all
  pub bytes : sum_by size_of left + sum_by size_of batch ≤ sum_by size_of all
  pub of : (w : Write) → Has (left ++ batch) w → Has all w

pub kept_none : (all left batch : List Write) → batch ≡ [] → Falls left → IsPermutation all left → ((key : UserKey) → last_write key left ≡ last_write key all) → HasKept all left batch
kept_none all left [] none falls same last = record {
  falls = falls;
  rises = λ i d lt. absurd (omega arith);
  low = λ v u h k. absurd h;
  last = λ key. ap (last_write key) (append-nil left) ∙ last key;
  few = omega (arith, length_permutation all left same);
  bytes = omega (arith, sum_by-IsPermutation size_of all left same);
  of = λ w h. contains_says all w (Contains-permutation left all w (IsPermutation-sym all left same) (contains_from left w (subst (λ (l : List Write). Has l w) (append-nil left) h)));
}
kept_none all left (b ∷ bs) none falls same last = absurd (cc none)

popped : (left : List Write) (w : Write) (batch : List Write) → (left ++ w ∷ []) ++ batch ≡ left ++ (w ∷ batch)
popped left w batch = append_assoc left (w ∷ []) batch

-- the batch has a later write of its key
pub kept_without : (all left batch : List Write) (w v : Write) → HasKept all (left ++ w ∷ []) batch → Has batch v → v.key ≡ w.key → HasKept all left batch
kept_without all left batch w v k h e =
    let front = falls_front left w k.falls in
    record {
      falls = front.0;
      rises = k.rises;
      low = λ a u p q. k.low a u p (has_left left (w ∷ []) u q);
      last = λ key. (last_write-append key left batch ∙ ap (λ o. option_or o (last_write key left)) (sym (covered key w v batch h e)) ∙ sym (last_write-append key left (w ∷ batch))
          ∙ ap (last_write key) (sym (popped left w batch)) ∙ k.last key);
      few = omega (arith, k.few, length_more left w);
      bytes = omega (arith, k.bytes, bytes_more left w);
      of = λ u p. k.of u (subst (λ (l : List Write). Has l u) (sym (popped left w batch)) (elim (has_cases left batch u p) [ inl a ↦ has_left left (w ∷ batch) u a | inr b ↦ has_right left (w ∷ batch) u (inr b) ]));
    }

-- its key is another than the last one of the batch
pub kept_with : (all left batch longer : List Write) (w : Write) → HasKept all (left ++ w ∷ []) batch
    → ((front : List Write) (v : Write) → batch ≡ front ++ v ∷ [] → v.key ≡ w.key → ⊥) → longer ≡ batch ++ w ∷ [] → HasKept all left longer
kept_with all left batch longer w k other is =
    let front = falls_front left w k.falls in
    let less : (v : Write) → Has batch v → IsLess v.key w.key = all_less batch w k.rises (λ v h. k.low v w h (has_right left (w ∷ []) w (inl refl))) other in
    let more : HasKept all left (batch ++ w ∷ []) = record {
      falls = front.0;
      rises = rise_more batch w k.rises less;
      low = λ a u p q. elim (has_cases batch (w ∷ []) a p) [
        | inl b ↦ k.low a u b (has_left left (w ∷ []) u q)
        | inr b ↦ elim b [ inl same ↦ subst (λ (x : Write). UserLe x.key u.key) same (front.1 u q) | inr none ↦ absurd none ]
      ];
      last = λ key. (last_write-append key left (batch ++ w ∷ []) ∙ ap (λ o. option_or o (last_write key left)) (sym (alone key w batch (λ v h. not_same v.key w.key (less v h))))
          ∙ sym (last_write-append key left (w ∷ batch)) ∙ ap (last_write key) (sym (popped left w batch)) ∙ k.last key);
      few = omega (arith, k.few, length_more left w, length_more batch w);
      bytes = omega (arith, k.bytes, bytes_more left w, bytes_more batch w);
      of = λ u p. k.of u (subst (λ (l : List Write). Has l u) (sym (popped left w batch)) (elim (has_cases left (batch ++ w ∷ []) u p) [
        | inl a ↦ has_left left (w ∷ batch) u a
        | inr b ↦ has_right left (w ∷ batch) u (elim (has_cases batch (w ∷ []) u b) [ inl c ↦ inr c | inr c ↦ elim c [ inl same ↦ inl same | inr none ↦ absurd none ] ])
      ]));
    } in
    subst (λ (l : List Write). HasKept all left l) (sym is) more

pub kept_last : (all left batch : List Write) → HasKept all left batch → left ≡ [] → KeepsLast all batch
kept_last all left batch k none = record { rises = k.rises; last = λ key. ap (λ (l : List Write). last_write key (l ++ batch)) (sym none) ∙ k.last key }

some_kept : (all left batch : List Write) → HasKept all left batch → left ≡ [] → 0 < length all → batch ≡ [] → ⊥
some_kept [] left batch k none some is = omega arith
some_kept (w ∷ ws) left batch k none some is =
    let r = last_write-some w.key (w ∷ ws) w (inl refl) refl in
    let bad : None ≡ Some r.0 = ap (last_write w.key) (sym is) ∙ (kept_last (w ∷ ws) left batch k none).last w.key ∙ r.1 in
    absurd (cc bad)

pub kept_batch : (all left batch : List Write) → HasKept all left batch → left ≡ [] → 0 < length all → (IsTooLarge all → ⊥) → IsBatch batch
kept_batch all left batch k none some fits =
    let few = few_fit all fits in
    record {
      some = some_kept all left batch k none some;
      fits = fits_from batch (omega (arith, k.few, few.0)) (omega (arith, k.bytes, few.1)) (λ w h. small_fit all fits w (k.of w (has_right left batch w h)));
      rises = k.rises;
    }
