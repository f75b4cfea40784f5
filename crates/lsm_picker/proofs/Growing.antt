-- A range that grows by the tables that it meets.
use Rattle.std.proofs.Common.{◌≡◌, ℕ, ◌≤◌, Bool, true, false, List, [], ◌∷◌, length, refl, sym, ◌∙◌, ap, subst, inl, inr, arith}
use Rattle.std.specs.List.{filter}
use Rattle.lsm_codec.specs.Keys.{UserKey, UserLe}
use Rattle.lsm_codec.specs.Lists.{Has}
use Rattle.lsm_codec.proofs.CallerLemmas.{filter_has, has_filter, user_le_trans, user_le_refl}
use Rattle.lsm_table.specs.Registry.{Table}
use Rattle.lsm_model.specs.Files.{File, Meets}
use Rattle.lsm_model.specs.Plans.{IsLinked}
use Rattle.lsm_model.proofs.CallerLemmas.{linked_in}
use Rattle.lsm_version.specs.Overlap.{meets}
use Rattle.lsm_version.specs.Versions.{IsSound, Levels, file_of, files, files_of, level_in, user_of}
use Rattle.lsm_picker.specs.TablePlans.{AreLinked, tables_over}
use Rattle.lsm_picker.specs.TableRanges.{IsHighest, IsLowest}
use Rattle.lsm_picker.proofs.LevelFiles.{files_has, files_in, has_files, in_files, meets_from, meets_says, own_table}
use Rattle.lsm_picker.proofs.Linking.{HighFrom, LowFrom, grown_all, grown_linked}

-- ---- filters

pub filter_short : (p : Table → Bool) (ts : List Table) → length (filter p ts) ≤ length ts
filter_short p [] = omega arith
filter_short p (t ∷ ts) = go (p t) refl (filter_short p ts)
  where
    go : (b : Bool) → p t ≡ b → length (filter p ts) ≤ length ts → length (filter p (t ∷ ts)) ≤ length (t ∷ ts)
    go true e h = rw e (omega arith)
    go false e h = rw e (omega arith)

-- a filter that takes all that another one takes takes no fewer
filter_more : (p q : Table → Bool) (ts : List Table) → ((t : Table) → Has ts t → p t ≡ true → q t ≡ true) → length (filter p ts) ≤ length (filter q ts)
filter_more p q [] imp = omega arith
filter_more p q (t ∷ ts) imp = go (p t) (q t) refl refl (filter_more p q ts (λ u h. imp u (inr h)))
  where
    go : (a b : Bool) → p t ≡ a → q t ≡ b → length (filter p ts) ≤ length (filter q ts) → length (filter p (t ∷ ts)) ≤ length (filter q (t ∷ ts))
    go true true e f h = rw (e, f) (omega arith)
    go true false e f h = (let k = imp t (inl refl) e in absurd (cc (k, f)))
    go false true e f h = rw (e, f) (omega arith)
    go false false e f h = rw (e, f) h

-- and where it takes no more than that one, it takes the same
pub filter_same : (p q : Table → Bool) (ts : List Table) → ((t : Table) → Has ts t → p t ≡ true → q t ≡ true) → length (filter q ts) ≤ length (filter p ts) → filter q ts ≡ filter p ts
filter_same p q [] imp le = refl
filter_same p q (t ∷ ts) imp le = go (p t) (q t) refl refl (filter_same p q ts (λ u h. imp u (inr h)))
  where
    go : (a b : Bool) → p t ≡ a → q t ≡ b → (length (filter q ts) ≤ length (filter p ts) → filter q ts ≡ filter p ts) → filter q (t ∷ ts) ≡ filter p (t ∷ ts)
    go true true e f rest = (let h = rw (e, f) at le in rw (e, f) (ap (λ us. t ∷ us) (rest (omega arith))))
    go true false e f rest = (let k = imp t (inl refl) e in absurd (cc (k, f)))
    go false true e f rest = (let h = rw (e, f) at le in let more = filter_more p q ts (λ u k. imp u (inr k)) in absurd (omega arith))
    go false false e f rest = (let h = rw (e, f) at le in rw (e, f) (rest h))

-- a filter as long as the list takes all
pub filter_all : (p : Table → Bool) (ts : List Table) (t : Table) → length ts ≤ length (filter p ts) → Has ts t → p t ≡ true
filter_all p [] t le h = absurd h
filter_all p (u ∷ ts) t le h = go (p u) refl h (filter_all p ts t)
  where
    go : (b : Bool) → p u ≡ b → Has (u ∷ ts) t → (length ts ≤ length (filter p ts) → Has ts t → p t ≡ true) → p t ≡ true
    go true e (inl same) rest = subst (λ (x : Table). p x ≡ true) same e
    go true e (inr k) rest = (let l = rw e at le in rest (omega arith) k)
    go false e k rest = (let l = rw e at le in let short = filter_short p ts in absurd (omega arith))

-- ---- the growing range

-- the tables that meet a range which grew from the first one by linked files
pub record IsGrown (v : Levels) (level : ℕ) (from to : UserKey) (us : List Table) : Type 0 where
  pub low : UserKey
  pub high : UserKey
  pub tables : us ≡ tables_over v level low high
  pub low_from : LowFrom (files v) level from to low
  pub high_from : HighFrom (files v) level from to high
  pub below : UserLe low from
  pub above : UserLe to high

pub grown_start : (v : Levels) (level : ℕ) (from to : UserKey) (us : List Table) → us ≡ tables_over v level from to → IsGrown v level from to us
grown_start v level from to us is = record {
  low = from;
  high = to;
  tables = is;
  low_from = inl refl;
  high_from = inl refl;
  below = user_le_refl from;
  above = user_le_refl to;
}

-- a table that meets the grown range is linked
pub grown_has : (v : Levels) (level : ℕ) (from to : UserKey) (us : List Table) → IsSound v → IsGrown v level from to us → (t : Table) → Has us t → IsLinked (files v) level (λ G. Meets G from to) (file_of level t)
grown_has v level from to us s g t h =
    let k = filter_has (meets g.low g.high) (level_in v.tables level) t (subst (λ (ts : List Table). Has ts t) g.tables h) in
    grown_linked (files v) level from to g.low g.high (file_of level t) (own_table v level t s k.0) (in_files v level t k.0) refl g.low_from g.high_from (meets_says g.low g.high level t k.1).1

pub grown_file : (v : Levels) (level : ℕ) (from to : UserKey) (us : List Table) → IsSound v → IsGrown v level from to us → (F : File) → Has (files_of level us) F → IsLinked (files v) level (λ G. Meets G from to) F
grown_file v level from to us s g F h = (let r = files_has level us F h in subst (IsLinked (files v) level (λ G. Meets G from to)) r.2 (grown_has v level from to us s g r.0 r.1))

-- it grows to the range of its tables
pub grown_more : (v : Levels) (level : ℕ) (from to low high : UserKey) (us more : List Table) → IsSound v → IsGrown v level from to us → IsLowest us from low → IsHighest us to high
    → more ≡ tables_over v level low high → IsGrown v level from to more
grown_more v level from to low high us more s g l u is = record {
  low = low;
  high = high;
  tables = is;
  low_from = elim l.met [ inl e ↦ inl e | inr w ↦ inr (file_of level w.0, grown_has v level from to us s g w.0 w.1, w.2) ];
  high_from = elim u.met [ inl e ↦ inl e | inr w ↦ inr (file_of level w.0, grown_has v level from to us s g w.0 w.1, w.2) ];
  below = l.below;
  above = u.above;
}

-- where it meets no more tables, it has all that are linked
pub grown_done : (v : Levels) (level : ℕ) (from to low high : UserKey) (us more : List Table) → IsSound v → UserLe from to → IsGrown v level from to us → IsLowest us from low → IsHighest us to high
    → more ≡ tables_over v level low high → length more ≤ length us → AreLinked v level (λ G. Meets G from to) more
grown_done v level from to low high us more s order g l u is le = record {
  only = grown_file v level from to more s (grown_more v level from to low high us more s g l u is);
  whole = grown_all (files v) level from to low high (files_of level more) l.below u.above spans closed;
  order = (meets low high, is);
}
  where
    ts : List Table
    ts = level_in v.tables level

    order_now : UserLe low high
    order_now = user_le_trans low from high l.below (user_le_trans from to high order u.above)

    kept : (t : Table) → Has ts t → meets g.low g.high t ≡ true → meets low high t ≡ true
    kept t h m =
        let here : Has us t = subst (λ (xs : List Table). Has xs t) (sym g.tables) (has_filter (meets g.low g.high) ts t h m) in
        let own = own_table v level t s h in
        meets_from low high level t order_now (user_le_trans (user_of t.smallest) (user_of t.largest) high own (u.each t here), user_le_trans low (user_of t.smallest) (user_of t.largest) (l.each t here) own)

    same : more ≡ us
    same = is ∙ filter_same (meets g.low g.high) (meets low high) ts kept (subst (λ (xs : List Table). length xs ≤ length (tables_over v level g.low g.high)) is (subst (λ (xs : List Table). length more ≤ length xs) g.tables le)) ∙ sym g.tables

    spans : (F : File) → Has (files_of level more) F → UserLe low F.low × UserLe F.high high
    spans F h =
        let r = files_has level more F h in
        let here : Has us r.0 = subst (λ (xs : List Table). Has xs r.0) same r.1 in
        subst (λ (G : File). UserLe low G.low × UserLe G.high high) r.2 (l.each r.0 here, u.each r.0 here)

    closed : (F : File) → Has (files v) F → F.level ≡ level → Meets F low high → Has (files_of level more) F
    closed F h at m =
        let r = files_in v level F h at in
        let there = has_filter (meets low high) ts r.0 r.1 (meets_from low high level r.0 order_now (subst (λ (G : File). Meets G low high) (sym r.2) m)) in
        subst (λ (G : File). Has (files_of level more) G) r.2 (has_files level more r.0 (subst (λ (xs : List Table). Has xs r.0) (sym is) there))

-- where it has as many tables as the level, it has all
pub grown_full : (v : Levels) (level : ℕ) (from to : UserKey) (us : List Table) → IsSound v → IsGrown v level from to us → length (level_in v.tables level) ≤ length us
    → AreLinked v level (λ G. Meets G from to) us
grown_full v level from to us s g le = record {
  only = grown_file v level from to us s g;
  whole = λ F l. all F (linked_in (files v) level (λ G. Meets G from to) F l);
  order = (meets g.low g.high, g.tables);
}
  where
    ts : List Table
    ts = level_in v.tables level

    all : (F : File) → Has (files v) F × (F.level ≡ level) → Has (files_of level us) F
    all F h =
        let r = files_in v level F h.0 h.1 in
        let m = filter_all (meets g.low g.high) ts r.0 (subst (λ (xs : List Table). length ts ≤ length xs) g.tables le) r.1 in
        let here = has_filter (meets g.low g.high) ts r.0 r.1 m in
        subst (λ (G : File). Has (files_of level us) G) r.2 (has_files level us r.0 (subst (λ (xs : List Table). Has xs r.0) (sym g.tables) here))
