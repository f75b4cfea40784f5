-- Pairs of a range, page by page.
use Rattle.std.proofs.Common.{◌≡◌, ◌≢◌, ℕ, Bool, true, false, List, [], ◌∷◌, ◌++◌, map, Option, None, Some, refl, sym, ap, ◌∙◌, subst, append_assoc, inl, inr}
use Rattle.std.specs.Prelude.{not}
use Rattle.lsm_codec.specs.Entries.{Entry}
use Rattle.lsm_codec.specs.Keys.{UserKey, UserLe, user_le}
use Rattle.lsm_codec.specs.Lists.{Has}
use Rattle.lsm_codec.proofs.CallerLemmas.{user_le_trans}
use Rattle.lsm_frames.specs.Answers as frames
use Rattle.lsm_model.specs.Scanning.{IsScan, Pair, UsersAscend}
use Rattle.lsm_iterators.specs.Seeking.{at_or_past}
use Rattle.lsm_iterators.specs.Shown.{ShowsPair}
use Rattle.lsm_query.proofs.CallerLemmas.{past_scan}
use Rattle.lsm_channels.specs.Reading.{IsTooLong}
use Rattle.lsm_channels.specs.Scanning.{IsFull, IsLongPage, IsPage, IsScanFrom, below, is_below, pair_of}
use Rattle.lsm_channels.specs.Stepping.{IsLongTurn, ahead}

abbrev IsYes : Bool → Type 0
IsYes true = Unit {0}
IsYes false = ⊥

-- ---- what is ahead

pub shown_ahead : (next : Option Pair) (old new : List Pair) → ShowsPair next old new → old ≡ ahead next new
shown_ahead None old new h = h.0
shown_ahead (Some p) old new h = h

-- ---- pairs from a key on

pub scan_past : (from : UserKey) (seq : ℕ) (es : List Entry) (next : Option Pair) (old new : List Pair) → IsScan seq (at_or_past from es) old → ShowsPair next old new
    → IsScanFrom from seq es (ahead next new)
scan_past from seq es next old new scan shows =
    subst (IsScanFrom from seq es) (shown_ahead next old new shows) (record {
      right = (past_scan seq from es old scan).0;
      whole = (past_scan seq from es old scan).1;
      ascending = scan.ascending;
    })

-- ---- pairs before the bound

abbrev IsCons : List Pair → Type 0
IsCons [] = ⊥
IsCons (q ∷ qs) = Unit {0}

below_later : (to : Option UserKey) (k q : UserKey) → is_below to k ≡ false → UserLe k q → is_below to q ≡ false
below_later None k q h le = absurd (subst IsYes h tt)
below_later (Some to) k q h le = ap not (user_le_trans to k q (not_false (user_le to k) h) le)
  where
    not_false : (b : Bool) → not b ≡ false → b ≡ true
    not_false true h = refl
    not_false false h = sym h

none_below : (to : Option UserKey) (ps : List Pair) → ((q : Pair) → Has ps q → is_below to q.0 ≡ false) → below to ps ≡ []
none_below to [] none = refl
none_below to (q ∷ qs) none = rw (none q (inl refl)) (none_below to qs (λ r has. none r (inr has)))

-- from a pair at the bound on none is before it
pub ends_at : (to : Option UserKey) (p : Pair) (ps : List Pair) → UsersAscend (p ∷ ps) → is_below to p.0 ≡ false → below to (p ∷ ps) ≡ []
ends_at to p ps up past = rw past (none_below to ps (λ q has. below_later to p.0 q.0 past (up.0 q has).0))

pub some_below : (to : Option UserKey) (p : Pair) (ps : List Pair) → is_below to p.0 ≡ true → below to (p ∷ ps) ≡ p ∷ below to ps
some_below to p ps h = let e : below to (p ∷ ps) ≡ p ∷ below to ps = rw h refl in e

pub some_left : (to : Option UserKey) (p : Pair) (ps : List Pair) → is_below to p.0 ≡ true → below to (p ∷ ps) ≢ []
some_left to p ps h e = subst IsCons (sym (some_below to p ps h) ∙ e) tt

-- ---- a page

-- without its last pair the page is not full
abbrev pub IsNoMore : ℕ → List frames.Pair → Type 0
IsNoMore limit pairs = (before : List frames.Pair) (p : frames.Pair) → pairs ≡ before ++ p ∷ [] → IsFull limit before → ⊥

-- the pairs so far are the first of those before the bound, and these are ahead
pub record SoFar (to : Option UserKey) (limit : ℕ) (all now : List Pair) (pairs : List frames.Pair) : Type 0 where
  pub front : List Pair
  pub parts : below to all ≡ front ++ below to now
  pub shown : pairs ≡ map pair_of front
  pub most : IsNoMore limit pairs
  pub ascending : UsersAscend now

abbrev IsSomePair : List frames.Pair → Type 0
IsSomePair [] = ⊥
IsSomePair (q ∷ qs) = Unit {0}

some_last : (before : List frames.Pair) (p : frames.Pair) → IsSomePair (before ++ p ∷ [])
some_last [] p = tt
some_last (q ∷ qs) p = tt

pub so_far_none : (to : Option UserKey) (limit : ℕ) (all : List Pair) (pairs : List frames.Pair) → UsersAscend all → pairs ≡ [] → SoFar to limit all all pairs
so_far_none to limit all pairs up e = record {
  front = [];
  parts = refl;
  shown = e;
  most = λ before p same full. subst IsSomePair (sym same ∙ e) (some_last before p);
  ascending = up;
}

without_last : List frames.Pair → List frames.Pair
without_last [] = []
without_last (q ∷ []) = []
without_last (q ∷ r ∷ rs) = q ∷ without_last (r ∷ rs)

without-last : (qs : List frames.Pair) (p : frames.Pair) → without_last (qs ++ p ∷ []) ≡ qs
unfolding without_last
without-last [] p = refl
without-last (q ∷ []) p = refl
without-last (q ∷ r ∷ rs) p = ap (λ (ps : List frames.Pair). q ∷ ps) (without-last (r ∷ rs) p)

same_first : (qs rs : List frames.Pair) (p q : frames.Pair) → qs ++ p ∷ [] ≡ rs ++ q ∷ [] → qs ≡ rs
same_first qs rs p q e = sym (without-last qs p) ∙ ap without_last e ∙ without-last rs q

map_last : (front : List Pair) (p : Pair) → map pair_of (front ++ p ∷ []) ≡ map pair_of front ++ pair_of p ∷ []
map_last [] p = refl
map_last (q ∷ front) p = ap (λ (ps : List frames.Pair). pair_of q ∷ ps) (map_last front p)

pub so_far_more : (to : Option UserKey) (limit : ℕ) (all now rest : List Pair) (p : Pair) (pairs new : List frames.Pair) → SoFar to limit all now pairs → now ≡ p ∷ rest
    → is_below to p.0 ≡ true → new ≡ pairs ++ pair_of p ∷ [] → (IsFull limit pairs → ⊥) → SoFar to limit all rest new
so_far_more to limit all now rest p pairs new so e here said room = record {
  front = so.front ++ p ∷ [];
  parts = so.parts ∙ ap (λ (ps : List Pair). so.front ++ below to ps) e ∙ ap (λ (ps : List Pair). so.front ++ ps) (some_below to p rest here) ∙ sym (append_assoc so.front (p ∷ []) (below to rest));
  shown = said ∙ ap (λ (ps : List frames.Pair). ps ++ pair_of p ∷ []) so.shown ∙ sym (map_last so.front p);
  most = λ before q same full. room (subst (IsFull limit) (same_first before pairs q (pair_of p) (sym same ∙ said)) full);
  ascending = (subst UsersAscend e so.ascending).1;
}

pub page_full : (to : Option UserKey) (limit : ℕ) (all now : List Pair) (pairs new : List frames.Pair) → SoFar to limit all now pairs → below to now ≢ [] → IsFull limit new → new ≡ pairs
    → IsPage limit (below to all) false new
page_full to limit all now pairs new so some full same = record {
  front = so.front;
  rest = below to now;
  parts = so.parts;
  shown = same ∙ so.shown;
  most = subst (IsNoMore limit) (sym same) so.most;
  left = (some, full);
}

pub page_ended : (to : Option UserKey) (limit : ℕ) (all now : List Pair) (pairs new : List frames.Pair) → SoFar to limit all now pairs → below to now ≡ [] → new ≡ pairs
    → IsPage limit (below to all) true new
page_ended to limit all now pairs new so none same = record {
  front = so.front;
  rest = [];
  parts = so.parts ∙ ap (λ (ps : List Pair). so.front ++ ps) none;
  shown = same ∙ so.shown;
  most = subst (IsNoMore limit) (sym same) so.most;
  left = refl;
}

-- ---- a pair that no answer has room for

pub long_page : (to : Option UserKey) (limit : ℕ) (all now : List Pair) (pairs : List frames.Pair) → SoFar to limit all now pairs → IsLongTurn to limit now pairs → IsLongPage limit (below to all)
long_page to limit all now pairs so (p, rest, e, here, room, long) = record {
  front = so.front;
  pair = p;
  rest = below to rest;
  parts = so.parts ∙ ap (λ (ps : List Pair). so.front ++ below to ps) e ∙ ap (λ (ps : List Pair). so.front ++ ps) (some_below to p rest here);
  room = λ full. room (subst (IsFull limit) (sym so.shown) full);
  long = subst (λ (qs : List frames.Pair). IsTooLong (frames.Shown false (qs ++ pair_of p ∷ []))) so.shown long;
}
