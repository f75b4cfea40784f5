-- Comparing keys that share their front by what they do not share.
use Rattle.std.proofs.Common.{◌≡◌, ℕ, zero, suc, ◌+◌, ◌-◌, ◌<◌, ◌≤◌, true, ltb, Ordering, Less, Equal, Greater, List, [], ◌∷◌, ◌++◌, length, take, drop, refl, sym, ap, ◌∙◌, arith, inl, inr}
use Rattle.std.specs.Ordering.{nat_cmp, is_lt, ordering_then}
use Rattle.std.specs.Cmp.{nat_cmp_is}
use Rattle.std.specs.Cmp.Lexicographic.{slice_cmp}
use Rattle.std.proofs.lemmas.Bool.{cases_lt}
use Rattle.std.proofs.lemmas.Cmp.{nat_cmp_total, tied_itself}
use Rattle.std.proofs.lemmas.List.{take-append-le, take-append-drop, length-append, length-take-le}
use Rattle.std.proofs.Math.Seq.{take-append-add}
use Rattle.lsm_codec.specs.Keys.{then_by, key_cmp, is_internal, user_of, tail_of, key_at}
use Rattle.lsm_codec.proofs.CallerLemmas.{slice_cmp-same, IsBytes}
use Rattle.lsm_block.specs.KeyParts.{KeyParts, AreParts, joined}
use Rattle.lsm_block.specs.Reading.{comes_after}
use Rattle.lsm_block.proofs.EntryLaws.{IsBytes-take, IsBytes-append}
use Rattle.lsm_block.proofs.KeyLaws.{order_less, order_equal}

-- ---- the order of lists

then-assoc : (a b c : Ordering) → ordering_then (ordering_then a b) c ≡ ordering_then a (ordering_then b c)
then-assoc Less b c = refl
then-assoc Equal b c = refl
then-assoc Greater b c = refl

-- lists whose fronts are as long
pub cmp_parts : (p q x y : List ℕ) → length p ≡ length q → slice_cmp nat_cmp (p ++ x) (q ++ y) ≡ ordering_then (slice_cmp nat_cmp p q) (slice_cmp nat_cmp x y)
cmp_parts [] [] x y e = refl
cmp_parts [] (b ∷ q) x y e = absurd (omega (arith, e))
cmp_parts (a ∷ p) [] x y e = absurd (omega (arith, e))
cmp_parts (a ∷ p) (b ∷ q) x y e =
    ap (ordering_then (nat_cmp a b)) (cmp_parts p q x y (omega (arith, e))) ∙ sym (then-assoc (nat_cmp a b) (slice_cmp nat_cmp p q) (slice_cmp nat_cmp x y))

-- lists of one front
pub cmp_rest : (p x y : List ℕ) → slice_cmp nat_cmp (p ++ x) (p ++ y) ≡ slice_cmp nat_cmp x y
cmp_rest p x y = cmp_parts p p x y refl ∙ ap (λ (o : Ordering). ordering_then o (slice_cmp nat_cmp x y)) (slice_cmp-same p p refl)

-- a list that is longer than another by its front alone
pub cmp_short : (p x w : List ℕ) → length w < length p → slice_cmp nat_cmp (p ++ x) w ≡ slice_cmp nat_cmp p w
cmp_short [] x w h = absurd (omega (arith, h))
cmp_short (a ∷ p) x [] h = refl
cmp_short (a ∷ p) x (b ∷ w) h = ap (ordering_then (nat_cmp a b)) (cmp_short p x w (omega (arith, h)))

moved : (n a b x y : ℕ) → x ≡ n + a → y ≡ n + b → nat_cmp a b ≡ nat_cmp x y
moved n a b x y e f =
    elim (cases_lt a b) [
      | inl lt ↦ sym (nat_cmp_is a b Less lt) ∙ nat_cmp_is x y Less (omega (arith, e, f, lt))
      | inr le ↦ elim (cases_lt b a) [
        | inl lt ↦ sym (nat_cmp_is a b Greater lt) ∙ nat_cmp_is x y Greater (omega (arith, e, f, lt))
        | inr ge ↦ sym (nat_cmp_is a b Equal (omega (arith, le, ge))) ∙ nat_cmp_is x y Equal (omega (arith, e, f, le, ge))
      ]
    ]

-- two fronts of one list compare as their lengths do
pub cmp_fronts : (w : List ℕ) (i j : ℕ) → i ≤ length w → j ≤ length w → slice_cmp nat_cmp (take i w) (take j w) ≡ nat_cmp i j
cmp_fronts w zero zero h k = refl
cmp_fronts [] zero (suc j) h k = absurd (omega (arith, k))
cmp_fronts [] (suc i) j h k = absurd (omega (arith, h))
cmp_fronts (x ∷ w) zero (suc j) h k = nat_cmp_is 0 (suc j) Less (omega arith)
cmp_fronts (x ∷ w) (suc i) zero h k = nat_cmp_is (suc i) 0 Greater (omega arith)
cmp_fronts (x ∷ w) (suc i) (suc j) h k =
    ap (λ (o : Ordering). ordering_then o (slice_cmp nat_cmp (take i w) (take j w))) (tied_itself nat_cmp_total x)
    ∙ cmp_fronts w i j (omega (arith, h)) (omega (arith, k)) ∙ moved 1 i j (suc i) (suc j) (omega arith) (omega arith)

-- ---- a key by its parts

pub joined-length : (k : KeyParts) → AreParts k → length (joined k) ≡ k.shared + length k.own
joined-length k p = length-append (take k.shared k.before) k.own ∙ ap (λ (n : ℕ). n + length k.own) (length-take-le k.shared k.before p.within)

pub joined-fits : (k : KeyParts) → AreParts k → IsBytes (joined k)
joined-fits k p = IsBytes-append (take k.shared k.before) k.own (IsBytes-take k.shared k.before p.before_fits) p.own_fits

take-take : (xs : List ℕ) (m n : ℕ) → n ≤ m → take n (take m xs) ≡ take n xs
take-take xs m zero h = refl
take-take [] zero (suc n) h = absurd (omega (arith, h))
take-take [] (suc m) (suc n) h = refl
take-take (x ∷ xs) zero (suc n) h = absurd (omega (arith, h))
take-take (x ∷ xs) (suc m) (suc n) h = ap (λ (ys : List ℕ). x ∷ ys) (take-take xs m n (omega (arith, h)))

-- what it takes of the key before alone
pub joined-front : (k : KeyParts) (n : ℕ) → AreParts k → n ≤ k.shared → take n (joined k) ≡ take n k.before
joined-front k n p h =
    take-append-le n (take k.shared k.before) k.own (omega (arith, h, length-take-le k.shared k.before p.within))
    ∙ take-take k.before k.shared n h

-- its user key, where its own bytes reach beyond the last eight
pub joined-user : (k : KeyParts) → AreParts k → 8 ≤ length k.own → user_of (joined k) ≡ take k.shared k.before ++ take (length k.own - 8) k.own
joined-user k p h =
    let front = take k.shared k.before in
    let n : length (joined k) - 8 ≡ length front + (length k.own - 8) = omega (arith, joined-length k p, length-take-le k.shared k.before p.within, h) in
    ap (λ (m : ℕ). take m (joined k)) n ∙ take-append-add front k.own (length k.own - 8)

-- ---- the user key before, and its own

-- Where the last eight bytes of one of them begin in what they share, the lengths decide.
pub before_by_length : (k : KeyParts) → AreParts k → 8 ≤ length k.before → 8 ≤ length (joined k) → length (joined k) < k.shared + 8
    → nat_cmp (length k.before) (length (joined k)) ≡ slice_cmp nat_cmp (user_of k.before) (user_of (joined k))
before_by_length k p b j h =
    let user : user_of (joined k) ≡ take (length (joined k) - 8) k.before = joined-front k (length (joined k) - 8) p (omega (arith, h, j)) in
    sym (ap (slice_cmp nat_cmp (user_of k.before)) user
    ∙ cmp_fronts k.before (length k.before - 8) (length (joined k) - 8) (omega arith) (omega (arith, h, p.within))
    ∙ moved 8 (length k.before - 8) (length (joined k) - 8) (length k.before) (length (joined k)) (omega (arith, b)) (omega (arith, j)))

pub before_in_front : (k : KeyParts) → AreParts k → 8 ≤ length k.before → 8 ≤ length (joined k) → length k.before < k.shared + 8
    → nat_cmp (length k.before) (length (joined k)) ≡ slice_cmp nat_cmp (user_of k.before) (user_of (joined k))
before_in_front k p b j h =
    let user : take (length k.before - 8) (joined k) ≡ user_of k.before = joined-front k (length k.before - 8) p (omega (arith, h, b)) in
    sym (ap (λ (w : List ℕ). slice_cmp nat_cmp w (user_of (joined k))) (sym user)
    ∙ cmp_fronts (joined k) (length k.before - 8) (length (joined k) - 8) (omega (arith, h, b, joined-length k p)) (omega arith)
    ∙ moved 8 (length k.before - 8) (length (joined k) - 8) (length k.before) (length (joined k)) (omega (arith, b)) (omega (arith, j)))

-- Elsewhere what they do not share decides.
pub before_by_rest : (k : KeyParts) → AreParts k → 8 ≤ length k.own → k.shared + 8 ≤ length k.before
    → slice_cmp nat_cmp (drop k.shared (user_of k.before)) (take (length k.own - 8) k.own) ≡ slice_cmp nat_cmp (user_of k.before) (user_of (joined k))
before_by_rest k p o h =
    let front = take k.shared k.before in
    let user : user_of k.before ≡ front ++ drop k.shared (user_of k.before) =
    sym (ap (λ (w : List ℕ). w ++ drop k.shared (user_of k.before)) (sym (take-take k.before (length k.before - 8) k.shared (omega (arith, h)))) ∙ take-append-drop k.shared (user_of k.before)) in
    sym (ap (slice_cmp nat_cmp (user_of k.before)) (joined-user k p o)
    ∙ ap (λ (w : List ℕ). slice_cmp nat_cmp w (front ++ take (length k.own - 8) k.own)) user
    ∙ cmp_rest front (drop k.shared (user_of k.before)) (take (length k.own - 8) k.own))

-- ---- its user key, and another

pub user_by_front : (k : KeyParts) (w : List ℕ) → AreParts k → 8 ≤ length (joined k) → length (joined k) ≤ k.shared + 8
    → slice_cmp nat_cmp (take (length (joined k) - 8) k.before) w ≡ slice_cmp nat_cmp (user_of (joined k)) w
user_by_front k w p j h = ap (λ (u : List ℕ). slice_cmp nat_cmp u w) (sym (joined-front k (length (joined k) - 8) p (omega (arith, h, j))))

pub user_by_short : (k : KeyParts) (w : List ℕ) → AreParts k → 8 ≤ length k.own → length w < k.shared
    → slice_cmp nat_cmp (take k.shared k.before) w ≡ slice_cmp nat_cmp (user_of (joined k)) w
user_by_short k w p o h =
    let front = take k.shared k.before in
    sym (ap (λ (u : List ℕ). slice_cmp nat_cmp u w) (joined-user k p o)
    ∙ cmp_short front (take (length k.own - 8) k.own) w (omega (arith, h, length-take-le k.shared k.before p.within)))

pub user_by_parts : (k : KeyParts) (w : List ℕ) → AreParts k → 8 ≤ length k.own → k.shared ≤ length w
    → ordering_then (slice_cmp nat_cmp (take k.shared k.before) (take k.shared w)) (slice_cmp nat_cmp (take (length k.own - 8) k.own) (drop k.shared w)) ≡ slice_cmp nat_cmp (user_of (joined k)) w
user_by_parts k w p o h =
    let front = take k.shared k.before in
    let own = take (length k.own - 8) k.own in
    sym (ap (λ (u : List ℕ). slice_cmp nat_cmp u w) (joined-user k p o)
    ∙ ap (slice_cmp nat_cmp (front ++ own)) (sym (take-append-drop k.shared w))
    ∙ cmp_parts front (take k.shared w) own (drop k.shared w) (length-take-le k.shared k.before p.within ∙ sym (length-take-le k.shared w h)))

-- ---- after a key

after_some : (before key : List ℕ) → 0 < length before → is_lt (key_cmp (key_at before) (key_at key)) ≡ comes_after before key
unfolding comes_after
after_some [] key h = absurd (omega (arith, h))
after_some (b ∷ bs) key h = refl

-- by the order of the user keys
pub after_by : (k : KeyParts) (o : Ordering) → AreParts k → 0 < length k.before → (0 < length k.before → is_internal k.before ≡ true) → is_internal (joined k) ≡ true
    → slice_cmp nat_cmp (user_of k.before) (user_of (joined k)) ≡ o → is_lt (then_by o (nat_cmp (tail_of (joined k)) (tail_of k.before))) ≡ comes_after k.before (joined k)
after_by k o p some before key e =
    sym (order_less k.before (joined k) o p.before_fits (joined-fits k p) (before some) key e) ∙ after_some k.before (joined k) some

pub after_equal : (k : KeyParts) → AreParts k → 0 < length k.before → (0 < length k.before → is_internal k.before ≡ true) → is_internal (joined k) ≡ true
    → slice_cmp nat_cmp (user_of k.before) (user_of (joined k)) ≡ Equal → ltb (tail_of (joined k)) (tail_of k.before) ≡ comes_after k.before (joined k)
after_equal k p some before key e =
    sym (order_equal k.before (joined k) p.before_fits (joined-fits k p) (before some) key e) ∙ after_some k.before (joined k) some
