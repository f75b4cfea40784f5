-- Plans of linked tables are closed.
use Rattle.std.proofs.Common.{◌≡◌, ℕ, zero, suc, ◌+◌, ◌<◌, ◌≤◌, Bool, false, List, [], ◌∷◌, ◌++◌, length, get_or, take, refl, sym, ◌∙◌, ap, subst, inl, inr, arith}
use Rattle.std.specs.Prelude.{Option, Some, None, Result, Ok, Err, IfOk, IfSome, IfNone, MatchOption, IsSomeAnd}
use Rattle.std.proofs.lemmas.Bool.{both_ways}
use Rattle.std.proofs.lemmas.List.{take_more, take_all}
use Rattle.lsm_codec.specs.Keys.{UserKey, UserLe, user_le}
use Rattle.lsm_codec.specs.Lists.{Has}
use Rattle.lsm_codec.proofs.CallerLemmas.{filter_has, has_cases, has_filter, has_left, has_right, user_le_refl, user_le_total, user_le_trans}
use Rattle.lsm_table.specs.Registry.{Table}
use Rattle.lsm_model.specs.Files.{File, Meets}
use Rattle.lsm_model.specs.Plans.{IsLinked, Spans, starting, meeting}
use Rattle.lsm_version.specs.Overlap.{meets}
use Rattle.lsm_version.specs.Versions.{IsSound, Levels, file_of, files, files_of, level_in, user_of}
use Rattle.lsm_picker.specs.TablePlans.{AreLinked, IsPlanFrom, NoneMeets, TablePlan, files_over, tables_over}
use Rattle.lsm_picker.specs.TableRanges.{IsGreater, IsHighest, IsLesser, IsLowest}
use Rattle.lsm_picker.proofs.LevelFiles.{files_has, files_in, has_files, in_files, meets_from, meets_says, own_table}
use Rattle.lsm_picker.proofs.Linking.{linked_from}

-- ---- the lesser and the greater of two keys

pub lesser_by : (a b : UserKey) (t : Bool) → t ≡ user_le a b → t ≡ false → IsLesser b a b
lesser_by a b t is off = elim (user_le_total a b) [ inl le ↦ absurd (both_ways (user_le a b) (sym is ∙ off) le) | inr ge ↦ inr (refl, ge) ]

pub greater_by : (a b : UserKey) (t : Bool) → t ≡ user_le a b → t ≡ false → IsGreater a a b
greater_by a b t is off = elim (user_le_total a b) [ inl le ↦ absurd (both_ways (user_le a b) (sym is ∙ off) le) | inr ge ↦ inl (refl, ge) ]

lesser_first : (k a b : UserKey) → IsLesser k a b → UserLe k a
lesser_first k a b (inl e) = subst (λ (x : UserKey). UserLe x a) (sym e.0) (user_le_refl a)
lesser_first k a b (inr e) = subst (λ (x : UserKey). UserLe x a) (sym e.0) e.1

lesser_second : (k a b : UserKey) → IsLesser k a b → UserLe k b
lesser_second k a b (inl e) = subst (λ (x : UserKey). UserLe x b) (sym e.0) e.1
lesser_second k a b (inr e) = subst (λ (x : UserKey). UserLe x b) (sym e.0) (user_le_refl b)

greater_first : (k a b : UserKey) → IsGreater k a b → UserLe a k
greater_first k a b (inl e) = subst (UserLe a) (sym e.0) (user_le_refl a)
greater_first k a b (inr e) = subst (UserLe a) (sym e.0) e.1

greater_second : (k a b : UserKey) → IsGreater k a b → UserLe b k
greater_second k a b (inl e) = subst (UserLe b) (sym e.0) e.1
greater_second k a b (inr e) = subst (UserLe b) (sym e.0) (user_le_refl b)

-- ---- the range of several tables

pub lowest_start : (ts : List Table) (from : UserKey) → IsLowest (take 0 ts) from from
lowest_start ts from = record { below = user_le_refl from; each = λ t h. absurd h; met = inl refl }

pub highest_start : (ts : List Table) (to : UserKey) → IsHighest (take 0 ts) to to
highest_start ts to = record { above = user_le_refl to; each = λ t h. absurd h; met = inl refl }

lowest_push : (ts : List Table) (x : Table) (from low new : UserKey) → IsLowest ts from low → IsLesser new low (user_of x.smallest) → IsLowest (ts ++ x ∷ []) from new
lowest_push ts x from low new l s = record {
  below = user_le_trans new low from (lesser_first new low (user_of x.smallest) s) l.below;
  each = λ t h. elim (has_cases ts (x ∷ []) t h) [
    | inl old ↦ user_le_trans new low (user_of t.smallest) (lesser_first new low (user_of x.smallest) s) (l.each t old)
    | inr own ↦ elim own [ inl e ↦ subst (λ (y : Table). UserLe new (user_of y.smallest)) e (lesser_second new low (user_of x.smallest) s) | inr none ↦ absurd none ]
  ];
  met = elim s [
    | inl e ↦ elim l.met [ inl f ↦ inl (e.0 ∙ f) | inr w ↦ inr (w.0, has_left ts (x ∷ []) w.0 w.1, w.2 ∙ sym e.0) ]
    | inr e ↦ inr (x, has_right ts (x ∷ []) x (inl refl), sym e.0)
  ];
}

highest_push : (ts : List Table) (x : Table) (to high new : UserKey) → IsHighest ts to high → IsGreater new high (user_of x.largest) → IsHighest (ts ++ x ∷ []) to new
highest_push ts x to high new l s = record {
  above = user_le_trans to high new l.above (greater_first new high (user_of x.largest) s);
  each = λ t h. elim (has_cases ts (x ∷ []) t h) [
    | inl old ↦ user_le_trans (user_of t.largest) high new (l.each t old) (greater_first new high (user_of x.largest) s)
    | inr own ↦ elim own [ inl e ↦ subst (λ (y : Table). UserLe (user_of y.largest) new) e (greater_second new high (user_of x.largest) s) | inr none ↦ absurd none ]
  ];
  met = elim s [
    | inl e ↦ elim l.met [ inl f ↦ inl (e.0 ∙ f) | inr w ↦ inr (w.0, has_left ts (x ∷ []) w.0 w.1, w.2 ∙ sym e.0) ]
    | inr e ↦ inr (x, has_right ts (x ∷ []) x (inl refl), sym e.0)
  ];
}

pub lowest_more : (ts : List Table) (i : ℕ) (x : Table) (from low new own : UserKey) → i < length ts → x ≡ get_or ts i x → own ≡ user_of x.smallest → IsLowest (take i ts) from low → IsLesser new low own
    → IsLowest (take (i + 1) ts) from new
lowest_more ts i x from low new own lt at is l s =
    subst (λ (us : List Table). IsLowest us from new) (ap (λ (u : Table). take i ts ++ u ∷ []) at ∙ sym (take_more ts i x lt))
    (lowest_push (take i ts) x from low new l (subst (IsLesser new low) is s))

pub highest_more : (ts : List Table) (i : ℕ) (x : Table) (to high new own : UserKey) → i < length ts → x ≡ get_or ts i x → own ≡ user_of x.largest → IsHighest (take i ts) to high → IsGreater new high own
    → IsHighest (take (i + 1) ts) to new
highest_more ts i x to high new own lt at is l s =
    subst (λ (us : List Table). IsHighest us to new) (ap (λ (u : Table). take i ts ++ u ∷ []) at ∙ sym (take_more ts i x lt))
    (highest_push (take i ts) x to high new l (subst (IsGreater new high) is s))

pub lowest_done : (ts : List Table) (i : ℕ) (from low : UserKey) → length ts ≤ i → IsLowest (take i ts) from low → IsLowest ts from low
lowest_done ts i from low past l = subst (λ (us : List Table). IsLowest us from low) (take_all i ts past) l

pub highest_done : (ts : List Table) (i : ℕ) (to high : UserKey) → length ts ≤ i → IsHighest (take i ts) to high → IsHighest ts to high
highest_done ts i to high past l = subst (λ (us : List Table). IsHighest us to high) (take_all i ts past) l

-- ---- spans

-- the range of tables that begins from one of them
spans_from : (level : ℕ) (ts : List Table) (s : Table) (from to : UserKey) → Has ts s → IsLowest ts (user_of s.smallest) from → IsHighest ts (user_of s.largest) to → Spans (files_of level ts) from to
spans_from level ts s from to h l u = record {
  above = λ F k. (let r = files_has level ts F k in subst (λ (G : File). UserLe from G.low) r.2 (l.each r.0 r.1));
  below = λ F k. (let r = files_has level ts F k in subst (λ (G : File). UserLe G.high to) r.2 (u.each r.0 r.1));
  least = elim l.met [
    | inl e ↦ (file_of level s, has_files level ts s h, sym e)
    | inr w ↦ (file_of level w.0, has_files level ts w.0 w.1, w.2)
  ];
  greatest = elim u.met [
    | inl e ↦ (file_of level s, has_files level ts s h, sym e)
    | inr w ↦ (file_of level w.0, has_files level ts w.0 w.1, w.2)
  ];
}

-- and that of both levels' tables
spans_both : (level : ℕ) (upper : List File) (lower : List Table) (from to low high : UserKey) → Spans upper from to → IsLowest lower from low → IsHighest lower to high → Spans (upper ++ files_of level lower) low high
spans_both level upper lower from to low high s l u = record {
  above = λ F k. elim (has_cases upper (files_of level lower) F k) [
    | inl a ↦ user_le_trans low from F.low l.below (s.above F a)
    | inr b ↦ (let r = files_has level lower F b in subst (λ (G : File). UserLe low G.low) r.2 (l.each r.0 r.1))
  ];
  below = λ F k. elim (has_cases upper (files_of level lower) F k) [
    | inl a ↦ user_le_trans F.high to high (s.below F a) u.above
    | inr b ↦ (let r = files_has level lower F b in subst (λ (G : File). UserLe G.high high) r.2 (u.each r.0 r.1))
  ];
  least = elim l.met [
    | inl e ↦ (s.least.0, has_left upper (files_of level lower) s.least.0 s.least.1, s.least.2 ∙ sym e)
    | inr w ↦ (file_of level w.0, has_right upper (files_of level lower) (file_of level w.0) (has_files level lower w.0 w.1), w.2)
  ];
  greatest = elim u.met [
    | inl e ↦ (s.greatest.0, has_left upper (files_of level lower) s.greatest.0 s.greatest.1, s.greatest.2 ∙ sym e)
    | inr w ↦ (file_of level w.0, has_right upper (files_of level lower) (file_of level w.0) (has_files level lower w.0 w.1), w.2)
  ];
}

-- a range from one of the tables is one
pub range_order : (v : Levels) (level : ℕ) (ts : List Table) (s : Table) (from to : UserKey) → IsSound v → ((t : Table) → Has ts t → Has (level_in v.tables level) t) → Has ts s
    → IsLowest ts (user_of s.smallest) from → IsHighest ts (user_of s.largest) to → UserLe from to
range_order v level ts s from to sound of h l u =
    user_le_trans from (user_of s.smallest) to l.below (user_le_trans (user_of s.smallest) (user_of s.largest) to (own_table v level s sound (of s h)) (u.each s h))

pub plan_closed : (v : Levels) (level : ℕ) (Start : File → Type 0) (upper lower : List Table) (s : Table) (from to low high : UserKey)
    → AreLinked v level Start upper → Has upper s → IsLowest upper (user_of s.smallest) from → IsHighest upper (user_of s.largest) to
    → AreLinked v (suc level) (λ F. Meets F from to) lower → IsLowest lower from low → IsHighest lower to high
    → IsPlanFrom v Start record { level = level; upper = upper; lower = lower; low = low; high = high }
plan_closed v level Start upper lower s from to low high up h lu hu down ll hl = record {
  closed = record {
    upper_from = up.only;
    upper_all = up.whole;
    from = from;
    to = to;
    range = spans_from level upper s from to h lu hu;
    lower_from = down.only;
    lower_all = down.whole;
    hull = spans_both (suc level) (files_of level upper) lower from to low high (spans_from level upper s from to h lu hu) ll hl;
  };
  upper_order = up.order;
  lower_order = down.order;
}

-- ---- other starting files

pub plan_starts : (v : Levels) (Start Other : File → Type 0) (p : TablePlan)
    → ((F : File) → Has (files v) F → F.level ≡ p.level → Start F → IsLinked (files v) p.level Other F)
    → ((F : File) → Has (files v) F → F.level ≡ p.level → Other F → IsLinked (files v) p.level Start F)
    → IsPlanFrom v Start p → IsPlanFrom v Other p
plan_starts v Start Other p to from c = record {
  closed = record {
    upper_from = λ F h. linked_from (files v) p.level Start Other to F (c.closed.upper_from F h);
    upper_all = λ F l. c.closed.upper_all F (linked_from (files v) p.level Other Start from F l);
    from = c.closed.from;
    to = c.closed.to;
    range = c.closed.range;
    lower_from = c.closed.lower_from;
    lower_all = c.closed.lower_all;
    hull = c.closed.hull;
  };
  upper_order = c.upper_order;
  lower_order = c.lower_order;
}

-- a file is one of those that meet a range just where it meets it
over_meets : (v : Levels) (level : ℕ) (from to : UserKey) (F : File) → Has (files_over v level from to) F → Meets F from to
over_meets v level from to F h =
    let r = files_has level (tables_over v level from to) F h in
    let m = filter_has (meets from to) (level_in v.tables level) r.0 r.1 in
    subst (λ (G : File). Meets G from to) r.2 (meets_says from to level r.0 m.1).1

meets_over : (v : Levels) (level : ℕ) (from to : UserKey) (F : File) → UserLe from to → Has (files v) F → F.level ≡ level → Meets F from to → Has (files_over v level from to) F
meets_over v level from to F le h at m =
    let r = files_in v level F h at in
    let there = has_filter (meets from to) (level_in v.tables level) r.0 r.1 (meets_from from to level r.0 le (subst (λ (G : File). Meets G from to) (sym r.2) m)) in
    subst (λ (G : File). Has (files_over v level from to) G) r.2 (has_files level (tables_over v level from to) r.0 there)

-- the plan of a range starts from the files that meet it
pub plan_over : (v : Levels) (from to : UserKey) (p : TablePlan) → UserLe from to → IsPlanFrom v (λ F. Meets F from to) p → IsPlanFrom v (Has (files_over v p.level from to)) p
plan_over v from to p le c = plan_starts v (λ F. Meets F from to) (Has (files_over v p.level from to)) p
    (λ F h at m. starting F h at (meets_over v p.level from to F le h at m))
    (λ F h at o. starting F h at (over_meets v p.level from to F o)) c

-- the plan of a file's own range starts from that file
pub plan_own : (v : Levels) (level : ℕ) (t : Table) (p : TablePlan) → IsSound v → Has (level_in v.tables level) t → p.level ≡ level
    → IsPlanFrom v (λ F. Meets F (user_of t.smallest) (user_of t.largest)) p → IsPlanFrom v (Has (file_of level t ∷ [])) p
plan_own v level t p s h at c = plan_starts v (λ F. Meets F T.low T.high) (Has (T ∷ [])) p to from c
  where
    T : File
    T = file_of level t

    own : UserLe T.low T.high
    own = own_table v level t s h

    to : (F : File) → Has (files v) F → F.level ≡ p.level → Meets F T.low T.high → IsLinked (files v) p.level (Has (T ∷ [])) F
    to F k e m = meeting T F (starting T (in_files v level t h) (sym at) (inl refl)) k e m

    from : (F : File) → Has (files v) F → F.level ≡ p.level → Has (T ∷ []) F → IsLinked (files v) p.level (λ G. Meets G T.low T.high) F
    from F k e (inl same) = starting F k e (subst (λ (G : File). UserLe G.low T.high) same own, subst (λ (G : File). UserLe T.low G.high) same own)
    from F k e (inr none) = absurd none

-- ---- none

-- where nothing is linked to a range, no file meets it
pub none_linked : (v : Levels) (level : ℕ) (from to : UserKey) (us : List Table) → us ≡ [] → AreLinked v level (λ F. Meets F from to) us → NoneMeets v level from to
none_linked v level from to us none l F h at m = subst (λ (ts : List Table). Has (files_of level ts) F) none (l.whole F (starting F h at m))

pub none_over : (v : Levels) (level : ℕ) (from to : UserKey) → NoneMeets v level from to → tables_over v level from to ≡ []
none_over v level from to none = go (tables_over v level from to) refl
  where
    go : (us : List Table) → tables_over v level from to ≡ us → tables_over v level from to ≡ []
    go [] e = e
    go (t ∷ us) e =
        let m = filter_has (meets from to) (level_in v.tables level) t (subst (λ (xs : List Table). Has xs t) (sym e) (inl refl)) in
        absurd (none (file_of level t) (in_files v level t m.0) refl (meets_says from to level t m.1).1)

-- a first table, and tables of a list
pub has_item : (ts : List Table) (i : ℕ) (x : Table) → i < length ts → x ≡ get_or ts i x → Has ts x
has_item [] i x lt is = absurd (omega arith)
has_item (t ∷ ts) zero x lt is = inl (sym is)
has_item (t ∷ ts) (suc i) x lt is = inr (has_item ts i x (omega arith) is)

pub no_length : (ts : List Table) → length ts ≡ 0 → ts ≡ []
no_length [] e = refl
no_length (t ∷ ts) e = absurd (omega arith)

-- ---- what the code gives

-- the plan of a table's own range is there, and starts from the table
pub own_plan : {E : Type 0} (v : Levels) (level : ℕ) (t : Table) (from to : UserKey) (r : Result (Option TablePlan) E) → IsSound v → Has (level_in v.tables level) t
    → from ≡ user_of t.smallest → to ≡ user_of t.largest → IfOk r (λ o. IfSome o (λ p. p.level ≡ level)) → IfOk r (λ o. IfNone o (NoneMeets v level from to))
    → IfOk r (λ o. IfSome o (λ p. IsPlanFrom v (λ F. Meets F from to) p)) → IfOk r (λ o. IsSomeAnd o (λ p. IsPlanFrom v (Has (file_of level t ∷ [])) p))
own_plan v level t from to (Err e) s h f g at none planned = tt
own_plan v level t from to (Ok None) s h f g at none planned =
    let own = own_table v level t s h in
    absurd (none (file_of level t) (in_files v level t h) refl (subst (UserLe (user_of t.smallest)) (sym g) own, subst (λ (k : UserKey). UserLe k (user_of t.largest)) (sym f) own))
own_plan v level t from to (Ok (Some p)) s h f g at none planned =
    plan_own v level t p s h at (subst (λ (k : UserKey). IsPlanFrom v (λ F. Meets F (user_of t.smallest) k) p) g (subst (λ (k : UserKey). IsPlanFrom v (λ F. Meets F k to) p) f planned))

-- the plan of a range starts from the files that meet it, and is there where some do
pub range_plan : (v : Levels) (level : ℕ) (from to : UserKey) (o : Option TablePlan) → UserLe from to → IfSome o (λ p. p.level ≡ level) → IfNone o (NoneMeets v level from to)
    → IfSome o (λ p. IsPlanFrom v (λ F. Meets F from to) p) → MatchOption o (tables_over v level from to ≡ []) (λ p. IsPlanFrom v (Has (files_over v level from to)) p)
range_plan v level from to None order at none planned = none_over v level from to none
range_plan v level from to (Some p) order at none planned =
    subst (λ (n : ℕ). IsPlanFrom v (Has (files_over v n from to)) p) at (plan_over v from to p order planned)

-- a range that ends before it begins meets nothing
pub over_none : (v : Levels) (level : ℕ) (from to : UserKey) → user_le from to ≡ false → tables_over v level from to ≡ []
over_none v level from to off = go (tables_over v level from to) refl
  where
    go : (us : List Table) → tables_over v level from to ≡ us → tables_over v level from to ≡ []
    go [] e = e
    go (t ∷ us) e =
        let m = filter_has (meets from to) (level_in v.tables level) t (subst (λ (xs : List Table). Has xs t) (sym e) (inl refl)) in
        absurd (both_ways (user_le from to) off (meets_says from to level t m.1).0)
