-- Ranges of user keys.
use Rattle.std.proofs.Common.{◌≡◌, ℕ, ◌+◌, ◌<◌, ◌≤◌, Bool, true, false, List, [], ◌∷◌, length}
use Rattle.std.proofs.Common.{take, get_or, refl, sym, ◌∙◌, ap, subst, inl, inr}
use Rattle.std.specs.Prelude.{◌&&◌, ◌⊎◌}
use Rattle.lsm_codec.specs.Keys.{UserKey, UserLe, user_le}
use Rattle.lsm_codec.specs.Lists.{Has}
use Rattle.std.proofs.lemmas.List.{take_more, take_all}
use Rattle.lsm_codec.proofs.CallerLemmas.{contains_says, has_cases, user_le_refl, user_le_trans, user_le_total}
use Rattle.lsm_manifest.specs.declared.file_meta.FileMeta.{FileMeta}
use Rattle.lsm_cmd_levels.specs.Reaching.{IsClosedIn, IsGreater, IsGrown, IsHull, IsLesser, IsReach, IsWithin, Span, meets, span_of}

-- ---- keys

not_le : (a b : UserKey) → user_le a b ≡ false → UserLe b a
not_le a b h = go (user_le_total a b)
  where
    go : (UserLe a b ⊎ UserLe b a) → UserLe b a
    go (inl k) = absurd (cc (k, h))
    go (inr k) = k

pub lesser_first : (a b : UserKey) (test : Bool) → test ≡ user_le a b → test ≡ true → IsLesser a a b
lesser_first a b test is holds = record { first = user_le_refl a; second = sym is ∙ holds; greatest = λ q l m. l }

pub lesser_second : (a b : UserKey) (test : Bool) → test ≡ user_le a b → test ≡ false → IsLesser b a b
lesser_second a b test is fails = record { first = not_le a b (sym is ∙ fails); second = user_le_refl b; greatest = λ q l m. m }

pub greater_first : (a b : UserKey) (test : Bool) → test ≡ user_le a b → test ≡ false → IsGreater a a b
greater_first a b test is fails = record { first = user_le_refl a; second = not_le a b (sym is ∙ fails); least = λ q l m. l }

pub greater_second : (a b : UserKey) (test : Bool) → test ≡ user_le a b → test ≡ true → IsGreater b a b
greater_second a b test is holds = record { first = sym is ∙ holds; second = user_le_refl b; least = λ q l m. m }

-- ---- ranges

pub within_refl : (r : Span) → IsWithin r r
within_refl r = (user_le_refl r.0, user_le_refl r.1)

pub within_trans : (a b c : Span) → IsWithin a b → IsWithin b c → IsWithin a c
within_trans a b c p q = (user_le_trans c.0 b.0 a.0 q.0 p.0, user_le_trans a.1 b.1 c.1 p.1 q.1)

both : (a b : Bool) → (a && b) ≡ true → (a ≡ true) × (b ≡ true)
both true b h = (refl, h)
both false b h = absurd cc

from_both : (a b : Bool) → a ≡ true → b ≡ true → (a && b) ≡ true
from_both a b p q = ap (λ x. x && b) p ∙ q

-- a wider range meets what a range meets
pub meets_wider : (r q f : Span) → IsWithin r q → meets r f ≡ true → meets q f ≡ true
meets_wider r q f w m =
    let p = both (user_le r.0 f.1) (user_le f.0 r.1) m in
    from_both (user_le q.0 f.1) (user_le f.0 q.1) (user_le_trans q.0 r.0 f.1 w.0 p.0) (user_le_trans f.0 r.1 q.1 p.1 w.1)

pub hull : (a b : Span) (low high : UserKey) → IsLesser low a.0 b.0 → IsGreater high a.1 b.1 → IsHull a b (low, high)
hull a b low high l g = record {
  first = (l.first, g.first);
  second = (l.second, g.second);
  least = λ q p r. (l.greatest q.0 p.0 r.0, g.least q.1 p.1 r.1);
}

-- ---- a range that grows

-- after some of the files: from the first range `from` it has grown to `span`
pub grown_none : (all : List FileMeta) (from : Span) → IsGrown all [] from from
grown_none all from = record { holds = within_refl from; met = λ f h m. absurd h; least = λ q w c. w }

-- one file more: the last of some is among them, or among the others
pub last_cases : {X : Type 0} (xs : List X) (i : ℕ) (x y : X) → i < length xs → x ≡ get_or xs i x → Has (take (i + 1) xs) y → Has (take i xs) y ⊎ (x ≡ y)
last_cases {X} xs i x y lt at h =
    go (has_cases (take i xs) (get_or xs i x ∷ []) y (subst (λ (ys : List X). Has ys y) (take_more xs i x lt) h))
  where
    go : (Has (take i xs) y ⊎ Has (get_or xs i x ∷ []) y) → Has (take i xs) y ⊎ (x ≡ y)
    go (inl k) = inl k
    go (inr (inl e)) = inr (at ∙ e)
    go (inr (inr k)) = absurd k

-- the file meets the range, which then takes it in
pub grown_met : (all : List FileMeta) (i : ℕ) (x : FileMeta) (from old new own : Span) (test : Bool) → i < length all → x ≡ get_or all i x → own ≡ span_of x
    → test ≡ meets old own → test ≡ true → IsHull old own new → IsGrown all (take i all) from old → IsGrown all (take (i + 1) all) from new
grown_met all i x from old new own test lt at is answer holds h g = record {
  holds = within_trans from old new g.holds h.first;
  met = λ f has m. (elim (last_cases all i x f lt at has) [
    | inl k ↦ within_trans (span_of f) old new (g.met f k m) h.first
    | inr e ↦ subst (λ (y : FileMeta). IsWithin (span_of y) new) e (subst (λ (y : Span). IsWithin y new) is h.second)
  ]);
  least = λ q w c. (let o = g.least q w c in
      let there : Has all x = contains_says all x (i, lt, sym at) in
      let there_meets : meets q (span_of x) ≡ true = meets_wider old q (span_of x) o (ap (λ (y : Span). meets old y) (sym is) ∙ sym answer ∙ holds) in
      h.least q o (subst (λ (y : Span). IsWithin y q) (sym is) (c x there there_meets)));
}

-- it does not
pub grown_skip : (all : List FileMeta) (i : ℕ) (x : FileMeta) (from old own : Span) (test : Bool) → i < length all → x ≡ get_or all i x → own ≡ span_of x
    → test ≡ meets old own → test ≡ false → IsGrown all (take i all) from old → IsGrown all (take (i + 1) all) from old
grown_skip all i x from old own test lt at is answer fails g = record {
  holds = g.holds;
  met = λ f has m. (elim (last_cases all i x f lt at has) [
    | inl k ↦ g.met f k m
    | inr e ↦ (let own_met : meets old (span_of x) ≡ true = meets_wider from old (span_of x) g.holds (subst (λ (y : FileMeta). meets from (span_of y) ≡ true) (sym e) m) in
        let not_met : meets old (span_of x) ≡ false = ap (λ (y : Span). meets old y) (sym is) ∙ sym answer ∙ fails in
        absurd (cc (own_met, not_met)))
  ]);
  least = g.least;
}

pub grown_done : (all : List FileMeta) (i : ℕ) (from r : Span) → length all ≤ i → IsGrown all (take i all) from r → IsGrown all all from r
grown_done all i from r past g = subst (λ (fs : List FileMeta). IsGrown all fs from r) (take_all i all past) g

-- ---- a range that has grown to its end

pub record IsReaching (fs : List FileMeta) (from r : Span) : Type 0 where
  pub holds : IsWithin from r
  pub least : (q : Span) → IsWithin from q → IsClosedIn fs q → IsWithin r q

pub reaching_none : (fs : List FileMeta) (from : Span) → IsReaching fs from from
reaching_none fs from = record { holds = within_refl from; least = λ q w c. w }

pub reaching_more : (fs : List FileMeta) (from r new : Span) → IsReaching fs from r → IsGrown fs fs r new → IsReaching fs from new
reaching_more fs from r new p g = record {
  holds = within_trans from r new p.holds g.holds;
  least = λ q w c. g.least q (p.least q w c) c;
}

pub reached : (fs : List FileMeta) (from r new : Span) → IsReaching fs from r → IsGrown fs fs r new → new ≡ r → IsReach fs from r
reached fs from r new p g same = record {
  holds = p.holds;
  closed = λ f has m. subst (λ (y : Span). IsWithin (span_of f) y) same (g.met f has m);
  least = p.least;
}
