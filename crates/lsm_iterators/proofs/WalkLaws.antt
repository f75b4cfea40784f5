-- What a walk tells of the first entry, and what it remembers.
use Rattle.std.proofs.Common.{◌≡◌, ℕ, Bool, true, false, Option, Some, None, Ordering, List, [], ◌∷◌, refl, ap, ◌∙◌}
use Rattle.std.specs.Prelude.{◌&&◌}
use Rattle.std.specs.Ordering.{is_eq, nat_cmp}
use Rattle.std.specs.Cmp.Lexicographic.{slice_cmp}
use Rattle.std.proofs.lemmas.Map.Text.{is_eq-slice_cmp}
use Rattle.lsm_codec.specs.declared.kind.Kind.{Kind}
use Rattle.lsm_codec.specs.Keys.{UserKey, InternalKey}
use Rattle.lsm_model.specs.Merging.{Placed}
use Rattle.lsm_model.specs.Scanning.{is_answered}
use Rattle.lsm_iterators.specs.declared.walk.FirstKey.{FirstKey}
use Rattle.lsm_iterators.specs.Heads.{first_of, key_in, user_in}
use Rattle.lsm_iterators.specs.Walks.{order_first, passed_if, told_first}

pub told_is : (passed : Option UserKey) (p : Placed) (k : FirstKey) → Some k ≡ told_first passed (Some p)
    → k ≡ record { seq = p.1.seq; kind = p.1.kind; is_same = is_answered passed p.1.user }
told_is passed p k h = cc h

-- the test, by the order of the two user keys
answered_by : (has : Bool) (own user : UserKey) → (has && is_eq (slice_cmp nat_cmp own user)) ≡ is_answered (passed_if has own) user
answered_by true own user = is_eq-slice_cmp own user
answered_by false own user = refl

pub told_by : (has : Bool) (own : UserKey) (ps : List Placed) (k : InternalKey) (first : FirstKey) → Some k ≡ key_in (first_of ps)
    → first.seq ≡ k.seq → first.kind ≡ k.kind → first.is_same ≡ (has && is_eq (slice_cmp nat_cmp own k.user)) → Some first ≡ told_first (passed_if has own) (first_of ps)
told_by has own [] k first h s d e = absurd cc
told_by has own (p ∷ ps) k first h s d e =
    let at : k ≡ record { user = p.1.user; seq = p.1.seq; kind = p.1.kind } = cc h in
    let same = e ∙ ap (λ (x : InternalKey). has && is_eq (slice_cmp nat_cmp own x.user)) at ∙ answered_by has own p.1.user in
    ap (λ (x : FirstKey). Some x) (first_is first p.1.seq p.1.kind (is_answered (passed_if has own) p.1.user) (s ∙ ap (λ (x : InternalKey). x.seq) at) (d ∙ ap (λ (x : InternalKey). x.kind) at) same)
  where
    first_is : (f : FirstKey) (seq : ℕ) (kind : Kind) (is_same : Bool) → f.seq ≡ seq → f.kind ≡ kind → f.is_same ≡ is_same → f ≡ record { seq = seq; kind = kind; is_same = is_same }
    first_is f seq kind is_same a b c = λ i. record { seq = a i; kind = b i; is_same = c i }

pub user_is : (ps : List Placed) (k : InternalKey) → Some k ≡ key_in (first_of ps) → k.user ≡ user_in (first_of ps)
user_is [] k h = absurd cc
user_is (p ∷ ps) k h = (let at : k ≡ record { user = p.1.user; seq = p.1.seq; kind = p.1.kind } = cc h in ap (λ (x : InternalKey). x.user) at)

-- ---- the order of the two user keys

pub order_none : (passed : Option UserKey) (ps : List Placed) → None ≡ key_in (first_of ps) → None ≡ order_first passed (first_of ps)
order_none None ps h = refl
order_none (Some own) [] h = refl
order_none (Some own) (p ∷ ps) h = absurd cc

pub order_told : (has : Bool) (own : UserKey) (ps : List Placed) (k : InternalKey) (o : Ordering) → has ≡ true → Some k ≡ key_in (first_of ps)
    → o ≡ slice_cmp nat_cmp own k.user → Some o ≡ order_first (passed_if has own) (first_of ps)
order_told false own ps k o t h e = absurd cc
order_told true own [] k o t h e = absurd cc
order_told true own (p ∷ ps) k o t h e =
    let at : k ≡ record { user = p.1.user; seq = p.1.seq; kind = p.1.kind } = cc h in
    ap (λ (x : Ordering). Some x) (e ∙ ap (λ (x : InternalKey). slice_cmp nat_cmp own x.user) at)

pub order_untold : (has : Bool) (own : UserKey) (ps : List Placed) → has ≡ false → None ≡ order_first (passed_if has own) (first_of ps)
order_untold false own ps f = refl
order_untold true own ps f = absurd cc
