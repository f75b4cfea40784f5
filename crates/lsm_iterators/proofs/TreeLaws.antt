-- A tree of merges: its files, and the source that has the first entry.
use Rattle.std.specs.List.{flat_map}
use Rattle.std.proofs.Common.{◌≡◌, ◌+◌, ◌<◌, ◌≤◌, ℕ, Bool, ◌⊎◌, true, false, Option, Some, None, List, [], ◌∷◌, ◌++◌, map, length, arith, refl, sym, ap, ◌∙◌, subst, append_assoc, append-nil, inl, inr}
use Rattle.std.specs.Ordering.{is_le, nat_cmp}
use Rattle.lsm_block.specs.Building.{common}
use Rattle.lsm_block.specs.Standing.{SharesFront}
use Rattle.lsm_codec.specs.Lists.{Has}
use Rattle.lsm_codec.specs.Keys.{InternalKey, packed}
use Rattle.lsm_codec.proofs.CallerLemmas.{has_left, has_right, has_cases}
use Rattle.lsm_model.specs.Merging.{Placed, goes_first, merge, merge_all, leads}
use Rattle.lsm_model.proofs.CallerLemmas.{merge_left, merge_right, merge_empty}
use Rattle.lsm_iterators.specs.Heads.{first_of, after_first, key_in, leads_by, source_in, user_in, user_named}
use Rattle.lsm_iterators.specs.Runs.{AreAlike, Left, ReadsNoOther, IsOfFirst}
use Rattle.lsm_iterators.specs.declared.tree.Tree.{Tree}
use Rattle.lsm_iterators.specs.declared.tree.Tree.TheVariants.{Leaf, Fork'}
use Rattle.lsm_iterators.specs.Tree.{IsFront, IsLed, IsReady, ShareHeads, both, all_left, left_of, none_left}
use Rattle.lsm_iterators.proofs.FrontLaws.{common_kept, common_kept_by, order_kept, order_kept_by, shares_less, shares_swapped, shares_through}
use Rattle.lsm_iterators.proofs.Joining.{merge-merge}

-- ---- where the first leads

pub first_left : (l r : List Placed) → leads l r ≡ true → first_of (merge l r) ≡ first_of l
first_left [] r h = absurd cc
first_left (x ∷ xs) r h = ap first_of (merge_left x xs r h)

pub step_left : (l r : List Placed) → leads l r ≡ true → after_first (merge l r) ≡ merge (after_first l) r
step_left [] r h = absurd cc
step_left (x ∷ xs) r h = ap after_first (merge_left x xs r h)

-- ---- where it does not

only_second : (l : List Placed) → leads l [] ≡ false → l ≡ []
only_second [] h = refl
only_second (x ∷ xs) h = absurd cc

pub first_right : (l r : List Placed) → leads l r ≡ false → first_of (merge l r) ≡ first_of r
first_right l [] h = ap (λ (m : List Placed). first_of (merge m [])) (only_second l h)
first_right l (y ∷ ys) h = ap first_of (merge_right l y ys h)

pub step_right : (l r : List Placed) → leads l r ≡ false → after_first (merge l r) ≡ merge l (after_first r)
step_right l [] h = ap (λ (m : List Placed). after_first (merge m [])) (only_second l h) ∙ ap (λ (m : List Placed). merge m []) (sym (only_second l h))
step_right l (y ∷ ys) h = ap after_first (merge_right l y ys h)

-- the test by the keys of the first entries
leads_keys : (l r : List Placed) → leads_by (key_in (first_of l)) (key_in (first_of r)) ≡ leads l r
unfolding goes_first
leads_keys [] r = refl
leads_keys (x ∷ xs) [] = refl
leads_keys (x ∷ xs) (y ∷ ys) = refl

-- by depths and by numbers it is the same test, as the keys are the same
pub led_by_keys : (a b : Left) (led : Bool) (j k : Option InternalKey) → led ≡ leads_by j k → j ≡ key_in (first_of a.placed) → k ≡ key_in (first_of b.placed)
    → j ≡ key_in (first_of a.numbered) → k ≡ key_in (first_of b.numbered) → IsLed led a b
led_by_keys a b led j k t ja kb ja' kb' = record {
  placed = t ∙ rw (ja, kb) refl ∙ leads_keys a.placed b.placed;
  numbered = t ∙ rw (ja', kb') refl ∙ leads_keys a.numbered b.numbered;
}

-- ---- fronts

-- a user key by the key of the entry
pub user_by_key : (ps : List Placed) (j : Option InternalKey) → j ≡ key_in (first_of ps) → user_named j ≡ user_in (first_of ps)
user_by_key [] j e = ap user_named e
user_by_key (p ∷ ps) j e = ap user_named e

heads_by : (n : ℕ) (a b c d : Left) → first_of a.placed ≡ first_of c.placed → first_of b.placed ≡ first_of d.placed → ShareHeads n c d → ShareHeads n a b
heads_by n a b c d e f h = rw (e, f) h

-- what the two trees of a fork share where one has moved, and kept no more than both shared
pub known_first : (n moved : ℕ) (a a' b : Left) → moved ≤ n → ShareHeads n a b → ShareHeads moved a a' → ShareHeads moved a' b
known_first n moved a a' b le s m =
    let u = user_in (first_of a.placed) in
    let v = user_in (first_of a'.placed) in
    let w = user_in (first_of b.placed) in
    shares_through moved v u w (shares_swapped moved u v m) (shares_less moved n u w le s)

pub known_second : (n moved : ℕ) (a b b' : Left) → moved ≤ n → ShareHeads n a b → ShareHeads moved b b' → ShareHeads moved a b'
known_second n moved a b b' le s m =
    let u = user_in (first_of a.placed) in
    let v = user_in (first_of b.placed) in
    let w = user_in (first_of b'.placed) in
    shares_through moved u v w (shares_less moved n u v le s) m

-- the same one leads as before
pub first_stays : (n : ℕ) (a a' b : Left) → IsLed true a b → IsLed true a' b → ShareHeads n a a' → ShareHeads n (both a b) (both a' b)
first_stays n a a' b t u s = heads_by n (both a b) (both a' b) a a' (first_left a.placed b.placed (sym t.placed)) (first_left a'.placed b.placed (sym u.placed)) s

pub second_stays : (n : ℕ) (a b b' : Left) → IsLed false a b → IsLed false a b' → ShareHeads n b b' → ShareHeads n (both a b) (both a b')
second_stays n a b b' t u s = heads_by n (both a b) (both a b') b b' (first_right a.placed b.placed (sym t.placed)) (first_right a.placed b'.placed (sym u.placed)) s

-- the other one leads now
pub first_yields : (n : ℕ) (a a' b : Left) → IsLed true a b → IsLed false a' b → ShareHeads n a b → ShareHeads n (both a b) (both a' b)
first_yields n a a' b t u s = heads_by n (both a b) (both a' b) a b (first_left a.placed b.placed (sym t.placed)) (first_right a'.placed b.placed (sym u.placed)) s

pub second_yields : (n : ℕ) (a b b' : Left) → IsLed false a b → IsLed true a b' → ShareHeads n a b → ShareHeads n (both a b) (both a b')
second_yields n a b b' t u s =
    heads_by n (both a b) (both a b') b a (first_right a.placed b.placed (sym t.placed)) (first_left a.placed b'.placed (sym u.placed))
    (shares_swapped n (user_in (first_of a.placed)) (user_in (first_of b.placed)) s)

-- the one that led leads as before, and kept so many bytes, or the other one leads now
pub first_kept : (r between moved : ℕ) (a a' b : Left) → IsLed true a b → (IsLed true a' b × (r ≡ moved)) ⊎ (IsLed false a' b × (r ≡ between)) → ShareHeads moved a a' → ShareHeads between a b
    → ShareHeads r (both a b) (both a' b)
first_kept r between moved a a' b t (inl h) m s = subst (λ (n : ℕ). ShareHeads n (both a b) (both a' b)) (sym h.1) (first_stays moved a a' b t h.0 m)
first_kept r between moved a a' b t (inr h) m s = subst (λ (n : ℕ). ShareHeads n (both a b) (both a' b)) (sym h.1) (first_yields between a a' b t h.0 s)

pub second_kept : (r between moved : ℕ) (a b b' : Left) → IsLed false a b → (IsLed false a b' × (r ≡ moved)) ⊎ (IsLed true a b' × (r ≡ between)) → ShareHeads moved b b' → ShareHeads between a b
    → ShareHeads r (both a b) (both a b')
second_kept r between moved a b b' t (inl h) m s = subst (λ (n : ℕ). ShareHeads n (both a b) (both a b')) (sym h.1) (second_stays moved a b b' t h.0 m)
second_kept r between moved a b b' t (inr h) m s = subst (λ (n : ℕ). ShareHeads n (both a b) (both a b')) (sym h.1) (second_yields between a b b' t h.0 s)

-- ---- a step that leaves the order of a fork

-- by depths and by numbers
pub alike_in : (t : Tree Left) → IsReady t → AreAlike (left_of t)
alike_in (Leaf source) h = h
alike_in (Fork' true front p l q r) h =
    let led : IsLed true (left_of l) (left_of r) = h.0 in
    ap key_in (first_left (left_of l).placed (left_of r).placed (sym led.placed)) ∙ alike_in l h.2 ∙ sym (ap key_in (first_left (left_of l).numbered (left_of r).numbered (sym led.numbered)))
alike_in (Fork' false front p l q r) h =
    let led : IsLed false (left_of l) (left_of r) = h.0 in
    ap key_in (first_right (left_of l).placed (left_of r).placed (sym led.placed)) ∙ alike_in r h.3 ∙ sym (ap key_in (first_right (left_of l).numbered (left_of r).numbered (sym led.numbered)))

first_led : (n : ℕ) (j i k : Option InternalKey) → SharesFront n (user_named j) (user_named i) → common (user_named j) (user_named k) < n → leads_by i k ≡ leads_by j k
first_led n None i k s h = (let x = s.first in absurd (omega (arith, h, x)))
first_led n (Some j) None k s h = (let x = s.second in absurd (omega (arith, h, x)))
first_led n (Some j) (Some i) None s h = refl
first_led n (Some j) (Some i) (Some k) s h = ap is_le (order_kept n j.user i.user k.user (nat_cmp (packed k) (packed j)) (nat_cmp (packed k) (packed i)) s h)

second_led : (n : ℕ) (j i k : Option InternalKey) → SharesFront n (user_named j) (user_named i) → common (user_named k) (user_named j) < n → leads_by k i ≡ leads_by k j
second_led n None i k s h = (let x = s.first in absurd (omega (arith, h, x)))
second_led n (Some j) None k s h = (let x = s.second in absurd (omega (arith, h, x)))
second_led n (Some j) (Some i) None s h = refl
second_led n (Some j) (Some i) (Some k) s h = ap is_le (order_kept_by n j.user i.user k.user (nat_cmp (packed j) (packed k)) (nat_cmp (packed i) (packed k)) s h)

user_of_key : (ps : List Placed) → user_named (key_in (first_of ps)) ≡ user_in (first_of ps)
user_of_key ps = user_by_key ps (key_in (first_of ps)) refl

pub first_leads_on : (led : Bool) (n front : ℕ) (a a' b : Left) → IsLed led a b → IsFront front a b → AreAlike a' → AreAlike b → ShareHeads n a a' → front < n → IsLed led a' b
first_leads_on led n front a a' b t f x y s h =
    let j = key_in (first_of a.placed) in
    let i = key_in (first_of a'.placed) in
    let k = key_in (first_of b.placed) in
    let named : SharesFront n (user_named j) (user_named i) = rw (user_of_key a.placed, user_of_key a'.placed) s in
    let less : common (user_named j) (user_named k) < n = rw (user_of_key a.placed, user_of_key b.placed) (subst (λ (m : ℕ). m < n) f.all h) in
    led_by_keys a' b led i k (t.placed ∙ sym (leads_keys a.placed b.placed) ∙ sym (first_led n j i k named less)) refl refl x y

pub second_leads_on : (led : Bool) (n front : ℕ) (a b b' : Left) → IsLed led a b → IsFront front a b → AreAlike a → AreAlike b' → ShareHeads n b b' → front < n → IsLed led a b'
second_leads_on led n front a b b' t f x y s h =
    let j = key_in (first_of b.placed) in
    let i = key_in (first_of b'.placed) in
    let k = key_in (first_of a.placed) in
    let named : SharesFront n (user_named j) (user_named i) = rw (user_of_key b.placed, user_of_key b'.placed) s in
    let less : common (user_named k) (user_named j) < n = rw (user_of_key b.placed, user_of_key a.placed) (subst (λ (m : ℕ). m < n) f.all h) in
    led_by_keys a b' led k i (t.placed ∙ sym (leads_keys a.placed b.placed) ∙ sym (second_led n j i k named less)) refl refl x y

pub first_front_stays : (n front : ℕ) (a a' b : Left) → IsFront front a b → ShareHeads n a a' → front < n → IsFront front a' b
first_front_stays n front a a' b f s h =
    let u = user_in (first_of a.placed) in
    let v = user_in (first_of a'.placed) in
    let w = user_in (first_of b.placed) in record {
      shared = shares_through front v u w (shares_swapped front u v (shares_less front n u v (omega (arith, h)) s)) f.shared;
      all = f.all ∙ sym (common_kept n u v w s (subst (λ (m : ℕ). m < n) f.all h));
    }

pub second_front_stays : (n front : ℕ) (a b b' : Left) → IsFront front a b → ShareHeads n b b' → front < n → IsFront front a b'
second_front_stays n front a b b' f s h =
    let u = user_in (first_of b.placed) in
    let v = user_in (first_of b'.placed) in
    let w = user_in (first_of a.placed) in record {
      shared = shares_through front w u v f.shared (shares_less front n u v (omega (arith, h)) s);
      all = f.all ∙ sym (common_kept_by n u v w s (subst (λ (m : ℕ). m < n) f.all h));
    }

-- ---- files

pub in_first : (a b : Left) (f : ℕ × ℕ) → Has a.files f → Has (both a b).files f
in_first a b f h = has_left a.files b.files f h

pub in_second : (a b : Left) (f : ℕ × ℕ) → Has b.files f → Has (both a b).files f
in_second a b f h = has_right a.files b.files f h

pub none_other_first : (a a' b : Left) → ReadsNoOther a a' → ReadsNoOther (both a b) (both a' b)
none_other_first a a' b r f h = elim (has_cases a'.files b.files f h) [
  | inl k ↦ has_left a.files b.files f (r f k)
  | inr k ↦ has_right a.files b.files f k
]

pub none_other_second : (a b b' : Left) → ReadsNoOther b b' → ReadsNoOther (both a b) (both a b')
none_other_second a b b' r f h = elim (has_cases a.files b'.files f h) [
  | inl k ↦ has_left a.files b.files f k
  | inr k ↦ has_right a.files b.files f (r f k)
]

pub fault_first : (a b : Left) (number : ℕ) → IsLed true a b → IsOfFirst a number → IsOfFirst (both a b) number
fault_first a b number t h =
    subst (λ (p : ℕ). Has (a.files ++ b.files) (p, number)) (sym (ap source_in (first_left a.placed b.placed (sym t.placed))))
    (has_left a.files b.files (source_in (first_of a.placed), number) h)

pub fault_second : (a b : Left) (number : ℕ) → IsLed false a b → IsOfFirst b number → IsOfFirst (both a b) number
fault_second a b number t h =
    subst (λ (p : ℕ). Has (a.files ++ b.files) (p, number)) (sym (ap source_in (first_right a.placed b.placed (sym t.placed))))
    (has_right a.files b.files (source_in (first_of b.placed), number) h)

-- ---- several sources

left_is : (p q m n : List Placed) (f h : List (ℕ × ℕ)) → p ≡ q → f ≡ h → m ≡ n
    → (let l : Left = record { placed = p; files = f; numbered = m } in l) ≡ record { placed = q; files = h; numbered = n }
left_is p q m n f h e k i = rw (e, k, i) refl

pub both-both : (a b c : Left) → both (both a b) c ≡ both a (both b c)
both-both a b c = left_is _ _ _ _ _ _ (merge-merge a.placed b.placed c.placed) (append_assoc a.files b.files c.files) (merge-merge a.numbered b.numbered c.numbered)

both_none : (a : Left) → both a none_left ≡ a
both_none a = left_is _ _ _ _ _ _ (merge_empty a.placed) (append-nil a.files) (merge_empty a.numbered)

pub all_left-append : (ls : List Left) (l : Left) → all_left (ls ++ l ∷ []) ≡ both (all_left ls) l
all_left-append [] l = both_none l
all_left-append (m ∷ ls) l = ap (λ (r : Left). both m r) (all_left-append ls l) ∙ sym (both-both m (all_left ls) l)

-- the last sources as one, and before them others as one
pub joined_left : (old mid new : List Left) (first second t : Left) → all_left old ≡ both (all_left mid) second → all_left mid ≡ both (all_left new) first → t ≡ both first second
    → all_left old ≡ both (all_left new) t
joined_left old mid new first second t e f g =
    e ∙ ap (λ (l : Left). both l second) f ∙ both-both (all_left new) first second ∙ ap (λ (l : Left). both (all_left new) l) (sym g)

-- all of them
pub none_before : (old new : List Left) (count : ℕ) (t : Left) → all_left old ≡ both (all_left new) t → length new + count ≡ length old → count ≡ length old → t ≡ all_left old
none_before old [] count t e rest all = sym e
none_before old (l ∷ new) count t e rest all = absurd (omega arith)

pub of_no_runs : (ls : List Left) → length ls ≡ 0 → none_left ≡ all_left ls
of_no_runs [] h = refl
of_no_runs (l ∷ ls) h = absurd (omega (arith, h))

pub all_placed : (ls : List Left) → (all_left ls).placed ≡ merge_all (map (λ (l : Left). l.placed) ls)
all_placed [] = refl
all_placed (l ∷ ls) = ap (λ (ps : List Placed). merge l.placed ps) (all_placed ls)

pub all_numbered : (ls : List Left) → (all_left ls).numbered ≡ merge_all (map (λ (l : Left). l.numbered) ls)
all_numbered [] = refl
all_numbered (l ∷ ls) = ap (λ (ps : List Placed). merge l.numbered ps) (all_numbered ls)

pub all_files : (ls : List Left) → (all_left ls).files ≡ flat_map (λ (l : Left). l.files) ls
all_files [] = refl
all_files (l ∷ ls) = ap (λ (fs : List (ℕ × ℕ)). l.files ++ fs) (all_files ls)
