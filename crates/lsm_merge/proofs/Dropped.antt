-- The loop of a merge: what was made, and what will be made of the rest, is what is made of the whole.
use Rattle.std.proofs.Common.{◌≡◌, ℕ, Bool, true, false, cond, List, [], ◌∷◌, ◌++◌, Option, Some, None, refl, sym, ◌∙◌, ap, subst, inl, inr, append_assoc}
use Rattle.std.proofs.lemmas.List.{append-nil}
use Rattle.std.proofs.Common.{Ordering, Less, Equal, Greater}
use Rattle.std.specs.Cmp.{IsTotalOrder}
use Rattle.std.specs.Ordering.{is_lt}
use Rattle.std.proofs.lemmas.Cmp.{nat_list_cmp_total, nat_cmp_total, on_total, then_total, back_total}
use Rattle.lsm_codec.specs.Lists.{Has}
use Rattle.lsm_codec.specs.Keys.{InternalKey, UserKey, key_cmp, packed}
use Rattle.lsm_codec.specs.Entries.{Entry, entry_cmp, internal_key}
use Rattle.lsm_model.specs.Files.{Before}
use Rattle.lsm_model.specs.Kept.{kept_entries}
use Rattle.lsm_model.specs.Streams.{IsAscending, streamed}
use Rattle.lsm_merge.specs.Cuts.{closes, cut_on, cut, is_empty, IsCutBy}
use Rattle.lsm_merge.specs.Dropping.{AscendingAfter, Follows, IsMerged, Making, closed, follows, is_kept, placed, shut, with_entry}
use Rattle.lsm_merge.specs.Remembered.{bare}
use Rattle.lsm_merge.proofs.Cutting.{cut_is_cut}

key_cmp_total : IsTotalOrder key_cmp
key_cmp_total = then_total (on_total (λ (k : InternalKey). k.user) nat_list_cmp_total) (back_total (on_total packed nat_cmp_total))

pub before_trans : (x y z : Entry) → Before x y → Before y z → Before x z
before_trans x y z = key_cmp_total.trans (internal_key x) (internal_key y) (internal_key z)

streamed_bare : (floor : ℕ) (ranges : List (UserKey × UserKey)) (e : Entry) (es : List Entry) → streamed floor ranges (Some (bare e)) es ≡ streamed floor ranges (Some e) es
streamed_bare floor ranges e [] = refl
streamed_bare floor ranges e (x ∷ es) = refl

-- what was made so far, and what will be made of the rest, is what is made of the whole; and the rest ascends just where the whole does
pub record IsOnTheWay (floor : ℕ) (ranges : List (UserKey × UserKey)) (size : List Entry → ℕ) (target : ℕ) (whole : List Entry) (m : Making) (before : Option Entry) (rest : List Entry) : Type 0 where
  pub same : m.outputs ++ cut_on size target m.output (streamed floor ranges before rest) ≡ cut size target (streamed floor ranges None whole)
  pub ascending : AscendingAfter before rest → IsAscending whole
  pub back : IsAscending whole → AscendingAfter before rest
  pub left : (e : Entry) → Has rest e → Has whole e

-- one entry more
pub way_step : (floor : ℕ) (ranges : List (UserKey × UserKey)) (size : List Entry → ℕ) (target : ℕ) (whole : List Entry) (m : Making) (before : Option Entry) (e : Entry) (rest : List Entry)
    → IsOnTheWay floor ranges size target whole m before (e ∷ rest) → Follows before e
    → IsOnTheWay floor ranges size target whole (cond (is_kept floor ranges before e) (placed size target m e) m) (Some (bare e)) rest
way_step floor ranges size target whole m before e rest w f = record {
  same = bared (is_kept floor ranges before e) ∙ go (is_kept floor ranges before e) ∙ w.same;
  ascending = λ a. w.ascending (λ x h. elim h [ inl s ↦ subst (Follows before) s f | inr l ↦ beyond before x f (a.0 x l) ], a);
  back = λ a. (w.back a).1;
  left = λ x h. w.left x (inr h);
}
  where
    beyond : (before : Option Entry) (x : Entry) → Follows before e → Before e x → Follows before x
    beyond None x f b = tt
    beyond (Some p) x f b = before_trans p e x f b

    R : List Entry
    R = streamed floor ranges (Some e) rest

    one : (b : Bool) → (with_entry e (cond {A = Making} b (shut m) m)).outputs ++ cut_on size target (with_entry e (cond {A = Making} b (shut m) m)).output R
        ≡ m.outputs ++ cond b (m.output ∷ cut_on size target (e ∷ []) R) (cut_on size target (m.output ++ e ∷ []) R)
    one true = append_assoc m.outputs (m.output ∷ []) (cut_on size target (e ∷ []) R)
    one false = refl

    go : (b : Bool) → (cond {A = Making} b (placed size target m e) m).outputs ++ cut_on size target (cond {A = Making} b (placed size target m e) m).output R
        ≡ m.outputs ++ cut_on size target m.output (cond b (e ∷ R) R)
    go true = one (closes size target m.output e.user)
    go false = refl

    bared : (b : Bool) → (cond {A = Making} b (placed size target m e) m).outputs ++ cut_on size target (cond {A = Making} b (placed size target m e) m).output (streamed floor ranges (Some (bare e)) rest)
        ≡ (cond {A = Making} b (placed size target m e) m).outputs ++ cut_on size target (cond {A = Making} b (placed size target m e) m).output R
    bared b = ap (λ (es : List Entry). (cond {A = Making} b (placed size target m e) m).outputs ++ cut_on size target (cond {A = Making} b (placed size target m e) m).output es) (streamed_bare floor ranges e rest)

-- the law of streams of kept entries
abbrev pub StreamingKeeps : Type 0
StreamingKeeps = (floor : ℕ) (ranges : List (UserKey × UserKey)) (merged : List Entry) → IsAscending merged → streamed floor ranges None merged ≡ kept_entries merged floor ranges

-- the end
pub way_done : (floor : ℕ) (ranges : List (UserKey × UserKey)) (size : List Entry → ℕ) (target : ℕ) (whole : List Entry) (m : Making) (before : Option Entry)
    → StreamingKeeps → IsOnTheWay floor ranges size target whole m before [] → IsMerged floor ranges size target whole (closed m)
way_done floor ranges size target whole m before keeps w = record {
  ascending = asc;
  cuts = subst (IsCutBy size target (kept_entries whole floor ranges)) (ap (cut size target) (sym (keeps floor ranges whole asc)) ∙ sym w.same ∙ ends (is_empty m.output))
      (cut_is_cut size target (kept_entries whole floor ranges));
}
  where
    asc : IsAscending whole
    asc = w.ascending (λ x h. absurd h, tt)

    ends : (b : Bool) → m.outputs ++ cond b [] (m.output ∷ []) ≡ cond b m.outputs (m.outputs ++ m.output ∷ [])
    ends true = append-nil m.outputs
    ends false = refl

is_less : (o : Ordering) → is_lt o ≡ true → o ≡ Less
is_less Less e = refl
is_less Equal e = absurd cc
is_less Greater e = absurd cc

pub follows_says : (before : Option Entry) (e : Entry) → follows before (internal_key e) ≡ true → Follows before e
follows_says None e t = tt
follows_says (Some p) e t = is_less (entry_cmp p e) t
