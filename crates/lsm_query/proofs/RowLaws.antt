-- Tables in a row, from the first that reaches a user key on.
use Rattle.std.proofs.Common.{◌≡◌, ℕ, zero, suc, ◌<◌, ◌≤◌, Bool, true, false, cond, List, [], ◌∷◌, ◌++◌, length, get_or, drop, map, None, refl, sym, ◌∙◌, ap, subst, inl, inr, arith}
use Rattle.std.specs.List.{Contains, filter, flat_map}
use Rattle.std.proofs.lemmas.Bool.{cases_lt}
use Rattle.std.proofs.lemmas.List.Elements.{filter-append}
use Rattle.lsm_codec.specs.Entries.{Entry}
use Rattle.lsm_codec.specs.Keys.{UserKey, UserLe, user_le}
use Rattle.lsm_codec.specs.Lists.{Has}
use Rattle.lsm_codec.proofs.CallerLemmas.{contains_from, filter_has, has_filter, user_le_trans}
use Rattle.lsm_table.specs.HeldTable.{entries_in}
use Rattle.lsm_table.specs.Registry.{Table, image_of}
use Rattle.lsm_model.specs.Files.{File, Fits, Shallower}
use Rattle.lsm_model.specs.Merging.{IsSorted, Placed, placed_at}
use Rattle.lsm_iterators.specs.Seeking.{IsReached, at_or_past}
use Rattle.lsm_version.specs.Reads.{IsFirstReaching, IsSoundLevel, reaches}
use Rattle.lsm_version.specs.Versions.{IsWhole, file_of, user_of}
use Rattle.lsm_version.proofs.CallerLemmas.{EachAfter, each_after, has_at, has_files, sound_part, table_fits}
use Rattle.lsm_iterators.specs.Runs.{once}
use Rattle.lsm_query.specs.Runs.{AddsRun, AreInRow, entries_after, run_of}
use Rattle.lsm_query.proofs.RunLaws.{after_has, follows_from, has_after, once_file, once_part, once_sorted}

-- ---- a row without its first tables

dropped : (ts : List Table) (p i : ℕ) (t : Table) → p ≤ i → i < length ts → get_or ts i t ≡ t → Has (drop p ts) t
dropped [] p i t le lt is = absurd (omega arith)
dropped (u ∷ ts) zero i t le lt is = subst (Has (u ∷ ts)) is (has_at (u ∷ ts) i t lt)
dropped (u ∷ ts) (suc p) zero t le lt is = absurd (omega arith)
dropped (u ∷ ts) (suc p) (suc i) t le lt is = dropped ts p i t (omega arith) (omega arith) is

pub has_dropped : (ts : List Table) (p : ℕ) (t : Table) → Has (drop p ts) t → Has ts t
has_dropped [] zero t h = h
has_dropped [] (suc p) t h = h
has_dropped (u ∷ ts) zero t h = h
has_dropped (u ∷ ts) (suc p) t h = inr (has_dropped ts p t h)

after_dropped : (ts : List Table) (p : ℕ) → EachAfter ts → EachAfter (drop p ts)
after_dropped [] zero a = tt
after_dropped [] (suc p) a = tt
after_dropped (t ∷ ts) zero a = a
after_dropped (t ∷ ts) (suc p) a = after_dropped ts p a.1

sound_dropped : (n : ℕ) (ts : List Table) (p : ℕ) → IsSoundLevel n ts → IsSoundLevel n (drop p ts)
sound_dropped n ts p s = sound_part n ts (drop p ts) (has_dropped ts p) (after_dropped ts p (each_after ts s.order)) s

sound_rest : (n : ℕ) (ts us : List Table) (p : ℕ) → us ≡ drop p ts → IsSoundLevel n ts → IsSoundLevel n us
sound_rest n ts us p is s = subst (IsSoundLevel n) (sym is) (sound_dropped n ts p s)

first_at : (ts : List Table) (p : ℕ) (t : Table) (us : List Table) → t ∷ us ≡ drop p ts → (p < length ts) × (get_or ts p t ≡ t)
first_at [] zero t us is = absurd (cc is)
first_at [] (suc p) t us is = absurd (cc is)
first_at (x ∷ ts) zero t us is = (omega arith, cc is)
first_at (x ∷ ts) (suc p) t us is = (let r = first_at ts p t us is in (let lt = r.0 in omega arith, r.1))

-- ---- tables before the first that reaches the user key

-- a table with an entry at or past the user key is not passed over
not_passed : (n : ℕ) (user : UserKey) (ts : List Table) (p : ℕ) (t : Table) (e : Entry) → IsSoundLevel n ts → IsFirstReaching user ts p → Has ts t → Has (entries_in t.image) e → UserLe user e.user
    → Has (drop p ts) t
not_passed n user ts p t e s f h k u = go (contains_from ts t h)
  where
    go : Contains ts t → Has (drop p ts) t
    go c = elim (cases_lt c.0 p) [
      | inl early ↦ absurd (cc (ap (λ (x : Table). reaches x user) c.2 ∙ user_le_trans user e.user (user_of t.largest) u ((table_fits n t (s.whole t h)).below e k), f.before c.0 t early))
      | inr on ↦ dropped ts p c.0 t (omega arith) c.1 c.2
    ]

-- and the first one that is left has such an entry
pub reached_row : (n : ℕ) (user : UserKey) (ts us : List Table) (p : ℕ) → IsSoundLevel n ts → IsFirstReaching user ts p → us ≡ drop p ts → (once None us ≡ [] → ⊥)
    → IsReached user (map image_of (once None us))
reached_row n user ts [] p s f is some = absurd (some refl)
reached_row n user ts (t ∷ us) p s f is some = λ none. subst (λ (es : List Entry). Has es last.0) none there
  where
    here : Has ts t
    here = has_dropped ts p t (subst (λ (l : List Table). Has l t) is (inl refl))

    last : (e : Entry) × Has (entries_in t.image) e × (e.user ≡ user_of t.largest)
    last = (table_fits n t (s.whole t here)).last

    reach : UserLe user (user_of t.largest)
    reach = (let at = first_at ts p t us is in ap (λ (x : Table). reaches x user) (sym at.1) ∙ f.after p t (omega arith) at.0)

    there : Has (at_or_past user (entries_in t.image)) last.0
    there = has_filter (λ (e : Entry). user_le user e.user) (entries_in t.image) last.0 last.1 (subst (UserLe user) (sym last.2) reach)

nil_first : (xs ys : List Entry) → xs ++ ys ≡ [] → xs ≡ []
nil_first [] ys h = refl
nil_first (x ∷ xs) ys h = absurd (cc h)

pub reached_some : (user : UserKey) (images : List (List ℕ)) → IsReached user images → at_or_past user (flat_map entries_in images) ≡ [] → ⊥
reached_some user [] r none = r
reached_some user (image ∷ images) r none =
    r (nil_first (at_or_past user (entries_in image)) (at_or_past user (flat_map entries_in images))
    (sym (filter-append (λ (e : Entry). user_le user e.user) (entries_in image) (flat_map entries_in images)) ∙ none))

-- ---- one run more

filter_sorted : (p : Entry → Bool) (es : List Entry) → IsSorted es → IsSorted (filter p es)
filter_sorted p [] s = tt
filter_sorted p (e ∷ es) s = go (p e) (filter_sorted p es s.1)
  where
    go : (b : Bool) → IsSorted (filter p es) → IsSorted (cond b (e ∷ filter p es) (filter p es))
    go true r = (λ y h. s.0 y (filter_has p es y h).0, r)
    go false r = r

pub row_sorted : (n : ℕ) (ts us : List Table) (p : ℕ) → 1 ≤ n → IsSoundLevel n ts → us ≡ drop p ts → IsSorted (entries_after (once None us))
row_sorted n ts us p pos s is = (let part = sound_rest n ts us p is s in once_sorted n None us (follows_from n us pos part) part.whole)

pub run_some : (depth : ℕ) (es : List Entry) → (es ≡ [] → ⊥) → run_of depth es ≡ placed_at depth es ∷ []
run_some depth [] some = absurd (some refl)
run_some depth (e ∷ es) some = refl

pub adds_row : (n : ℕ) (user : UserKey) (depth : ℕ) (ts us : List Table) (p : ℕ) (old new : List (List Placed)) → 1 ≤ n → IsSoundLevel n ts → IsFirstReaching user ts p → us ≡ drop p ts
    → new ≡ old ++ run_of depth (at_or_past user (entries_after (once None us))) → AddsRun user depth ts old new
adds_row n user depth ts us p old new pos s f is grown = record {
  entries = at_or_past user (entries_after (once None us));
  from = λ e h. (let a = filter_has (λ (x : Entry). user_le user x.user) (entries_after (once None us)) e h in
      let r = after_has (once None us) e a.0 in
      (r.0, has_dropped ts p r.0 (subst (λ (l : List Table). Has l r.0) is (once_part None us r.0 r.1)), r.2, a.1));
  all = λ t e h k u. (let there : Has us t = subst (λ (l : List Table). Has l t) (sym is) (not_passed n user ts p t e s f h k u) in
      let v = once_file n us (file_of n t) (sound_rest n ts us p is s) (has_files n us t there) in
      has_filter (λ (x : Entry). user_le user x.user) (entries_after (once None us)) e (has_after (once None us) v.0 e v.1 (subst (λ (F : File). Has F.entries e) (sym v.2) k)) u);
  sorted = filter_sorted (λ (x : Entry). user_le user x.user) (entries_after (once None us)) (row_sorted n ts us p pos s is);
  grown = grown;
}

-- ---- a table alone

pub one_in_row : (t : Table) → IsWhole t → AreInRow (t ∷ [])
one_in_row t w = (
  1,
  omega arith,
  record {
    lawful = record {
      fits = λ F h. elim h [ inl e ↦ subst Fits e (table_fits 1 t w) | inr none ↦ absurd none ];
      numbers = λ F G h k same. elim h [ inl e ↦ elim k [ inl d ↦ sym e ∙ d | inr none ↦ absurd none ] | inr none ↦ absurd none ];
      in_order = λ F G h k level pos other. elim h [ inl e ↦ elim k [ inl d ↦ absurd (other (ap (λ (H : File). H.number) (sym e ∙ d))) | inr none ↦ absurd none ] | inr none ↦ absurd none ];
      depth = λ F G x y h k sh hx hy same. elim h [
        | inl e ↦ elim k [ inl d ↦ absurd (no_less F G (ap (λ (H : File). H.level) e) (ap (λ (H : File). H.level) d) sh) | inr none ↦ absurd none ]
        | inr none ↦ absurd none
      ];
    };
    whole = λ u h. elim h [ inl e ↦ subst IsWhole e w | inr none ↦ absurd none ];
    order = λ k d low lt. absurd (omega arith);
  },
)
  where
    no_less : (F G : File) → 1 ≡ F.level → 1 ≡ G.level → Shallower F G → ⊥
    no_less F G a b (inl lt) = absurd (omega arith)
    no_less F G a b (inr o) = (let e = o.0 in absurd (omega arith))

-- no table is left of those that are left
pub once_none : (ts : List Table) → once None ts ≡ [] → ts ≡ []
once_none [] none = refl
once_none (t ∷ ts) none = absurd (cc none)
