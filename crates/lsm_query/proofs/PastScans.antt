-- A scan from a user key on, beside the scan of all.
use Rattle.std.proofs.Common.{◌≡◌, ℕ, Bool, true, false, cond, List, [], ◌∷◌, None, refl, sym, ◌∙◌, ap, subst, inl, inr}
use Rattle.std.specs.List.{filter, flat_map}
use Rattle.lsm_codec.specs.Entries.{Entry, answer, value_in}
use Rattle.lsm_codec.specs.Keys.{UserKey, user_le}
use Rattle.lsm_codec.specs.Lists.{Has}
use Rattle.lsm_codec.proofs.CallerLemmas.{filter_has, has_filter, user_le_antisym}
use Rattle.lsm_model.specs.Files.{OneEach}
use Rattle.lsm_model.specs.Merging.{AreOrdered, Placed, entries_of, merge_all}
use Rattle.lsm_model.specs.Scanning.{IsScan, Pair, UsersAscend, pairs_of}
use Rattle.lsm_model.proofs.CallerLemmas.{entry_placed, merged_from, merged_has, merged_sorted, placed_entry, scan_is}
use Rattle.lsm_iterators.specs.Seeking.{at_or_past}
use Rattle.lsm_query.proofs.ScanLaws.{newest_same, past_scan}

-- ---- entries have a scan

-- each by itself
abbrev singles : List Entry → List (List Placed)
singles [] = []
singles (e ∷ es) = ((0, e) ∷ []) ∷ singles es

singles_ordered : (es : List Entry) → AreOrdered (singles es)
singles_ordered [] = tt
singles_ordered (e ∷ es) = ((λ q h. absurd h, tt), singles_ordered es)

single_has : (es : List Entry) (e : Entry) → Has es e → Has (flat_map (λ (l : List Placed). l) (singles es)) (0, e)
single_has [] e h = absurd h
single_has (f ∷ es) e (inl same) = inl (ap (λ (x : Entry). (let p : Placed = (0, x) in p)) same)
single_has (f ∷ es) e (inr h) = inr (single_has es e h)

has_single : (es : List Entry) (p : Placed) → Has (flat_map (λ (l : List Placed). l) (singles es)) p → Has es p.1
has_single [] p h = absurd h
has_single (f ∷ es) p (inl same) = inl (ap (λ (q : Placed). q.1) same)
has_single (f ∷ es) p (inr h) = inr (has_single es p h)

pub some_scan : (s : ℕ) (es : List Entry) → OneEach es → (pairs : List Pair) × IsScan s es pairs
some_scan s es one = (
  pairs_of s None merged,
  record {
    right = λ k v h. sym (same k) ∙ scan.right k v h;
    whole = λ k v h. scan.whole k v (same k ∙ h);
    ascending = scan.ascending;
  },
)
  where
    merged : List Entry
    merged = entries_of (merge_all (singles es))

    scan : IsScan s merged (pairs_of s None merged)
    scan = scan_is s merged (merged_sorted (singles es) (singles_ordered es))

    to : (e : Entry) → Has merged e → Has es e
    to e h = (let q = entry_placed (merge_all (singles es)) e h in subst (Has es) q.2 (has_single es q.0 (merged_from (singles es) q.0 q.1)))

    from : (e : Entry) → Has es e → Has merged e
    from e h = placed_entry (merge_all (singles es)) (0, e) (merged_has (singles es) (0, e) (single_has es e h))

    same : (k : UserKey) → answer merged k s ≡ answer es k s
    same k = ap value_in (newest_same k s merged es one to from)

-- ---- of which one from a user key on is the part at or past it

-- pairs that ascend, and are the same, stand alike
ascending_same : (ps qs : List Pair) → UsersAscend ps → UsersAscend qs → ((p : Pair) → Has ps p → Has qs p) → ((p : Pair) → Has qs p → Has ps p) → ps ≡ qs
ascending_same [] [] a b to from = refl
ascending_same [] (q ∷ qs) a b to from = absurd (from q (inl refl))
ascending_same (p ∷ ps) [] a b to from = absurd (to p (inl refl))
ascending_same (p ∷ ps) (q ∷ qs) a b to from =
    ap (λ (r : Pair). r ∷ ps) same ∙ ap (λ (l : List Pair). q ∷ l) (ascending_same ps qs a.1 b.1
    (λ r h. behind qs r (to r (inr h)) (λ e. (a.0 r h).1 (ap (λ (x : Pair). x.0) (same ∙ e))))
    (λ r h. behind ps r (from r (inr h)) (λ e. (b.0 r h).1 (ap (λ (x : Pair). x.0) (sym same ∙ e)))))
  where
    heads : Has (q ∷ qs) p → Has (p ∷ ps) q → p ≡ q
    heads (inl e) k = sym e
    heads (inr h) (inl e) = e
    heads (inr h) (inr k) = absurd ((a.0 q k).1 (user_le_antisym p.0 q.0 (a.0 q k).0 (b.0 p h).0))

    same : p ≡ q
    same = heads (to p (inl refl)) (from q (inl refl))

    behind : {x : Pair} (l : List Pair) (r : Pair) → Has (x ∷ l) r → (x ≡ r → ⊥) → Has l r
    behind l r (inl e) other = absurd (other e)
    behind l r (inr h) other = h

filter_ascends : (f : Pair → Bool) (ps : List Pair) → UsersAscend ps → UsersAscend (filter f ps)
filter_ascends f [] a = tt
filter_ascends f (p ∷ ps) a = go (f p) (filter_ascends f ps a.1)
  where
    go : (b : Bool) → UsersAscend (filter f ps) → UsersAscend (cond b (p ∷ filter f ps) (filter f ps))
    go true rest = (λ q h. a.0 q (filter_has f ps q h).0, rest)
    go false rest = rest

pub past_pairs : (s : ℕ) (user : UserKey) (es : List Entry) (pairs left : List Pair) → IsScan s es pairs → IsScan s (at_or_past user es) left → left ≡ filter (λ p. user_le user p.0) pairs
past_pairs s user es pairs left whole past =
    let says = past_scan s user es left past in
    ascending_same left (filter (λ (p : Pair). user_le user p.0) pairs) past.ascending (filter_ascends (λ (p : Pair). user_le user p.0) pairs whole.ascending)
    (λ p h. (let r = says.0 p.0 p.1 h in has_filter (λ (q : Pair). user_le user q.0) pairs p (whole.whole p.0 p.1 r.1) r.0))
    (λ p h. (let r = filter_has (λ (q : Pair). user_le user q.0) pairs p h in says.1 p.0 p.1 r.1 (whole.right p.0 p.1 r.0)))
