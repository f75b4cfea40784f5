-- Two files beside each other: files apart in user keys lie in order of internal keys, and files in
-- order have no internal key in common.
use Rattle.std.proofs.Common.{◌≡◌, sym, subst, inl, inr, arith}
use Rattle.lsm_codec.specs.Entries.{Entry, stamp}
use Rattle.lsm_codec.specs.Keys.{UserKey, UserLe}
use Rattle.lsm_codec.specs.Lists.{Has}
use Rattle.lsm_codec.proofs.CallerLemmas.{user_le_trans, user_le_total}
use Rattle.lsm_model.specs.Files.{File, Meets, Apart, Fits, IsAhead, InOrder}
use Rattle.lsm_model.proofs.Order.{before_says, before_from}

-- ranges that share a key meet
pub meets_at : (F : File) (low high k : UserKey) → UserLe F.low k → UserLe k F.high → UserLe low k → UserLe k high → Meets F low high
meets_at F low high k a b c d = (user_le_trans F.low k high a d, user_le_trans low k F.high c b)

-- files that share a key meet
pub share_meets : (F G : File) (x y : Entry) → Fits F → Fits G → Has F.entries x → Has G.entries y → x.user ≡ y.user → Meets F G.low G.high
share_meets F G x y f g hx hy same =
    meets_at F G.low G.high y.user (subst (UserLe F.low) same (f.above x hx)) (subst (λ (k : UserKey). UserLe k F.high) same (f.below x hx)) (g.above y hy) (g.below y hy)

-- a file that ends where another begins stands before it
ahead : (F G : File) → Fits F → Fits G → Apart F G → UserLe F.high G.low → IsAhead F G
ahead F G f g a le = λ x y hx hy. before_from x y (inl (
  user_le_trans x.user F.high y.user (f.below x hx) (user_le_trans F.high G.low y.user le (g.above y hy)),
  λ same. a (share_meets F G x y f g hx hy same),
))

pub apart_in_order : (F G : File) → Fits F → Fits G → Apart F G → InOrder F G
apart_in_order F G f g a = elim (user_le_total F.low G.high) [
  | inl le ↦ elim (user_le_total G.low F.high) [ inl below ↦ absurd (a (le, below)) | inr above ↦ inl (ahead F G f g a above) ]
  | inr ge ↦ inr (ahead G F g f (λ m. a (m.1, m.0)) ge)
]

pub in_order_distinct : (F G : File) (x y : Entry) → Fits F → Fits G → InOrder F G → Has F.entries x → Has G.entries y → x.user ≡ y.user → stamp x ≡ stamp y → ⊥
in_order_distinct F G x y f g o hx hy same stamps = elim o [
  | inl ab ↦ elim (before_says x y (ab x y hx hy)) [ inl k ↦ k.1 same | inr s ↦ (let lt = s.1 in omega arith) ]
  | inr ba ↦ elim (before_says y x (ba y x hy hx)) [ inl k ↦ k.1 (sym same) | inr s ↦ (let lt = s.1 in omega arith) ]
]
