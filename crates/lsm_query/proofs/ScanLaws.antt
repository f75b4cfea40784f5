-- What a scan of a version shows.
use Rattle.std.proofs.Common.{◌≡◌, ℕ, Bool, true, false, cond, List, [], ◌∷◌, Option, Some, None, refl, sym, ◌∙◌, ap, subst}
use Rattle.lsm_codec.specs.Lists.{Has}
use Rattle.lsm_codec.specs.Keys.{UserKey, UserLe, user_le}
use Rattle.lsm_codec.specs.Entries.{Entry, answer, first_of_two, is_allowed, newest, value_in}
use Rattle.lsm_codec.proofs.CallerLemmas.{allowed_says, filter_has, flat_has, has_filter, has_flat}
use Rattle.lsm_table.specs.Registry.{Table}
use Rattle.lsm_model.specs.Files.{File, IsLawful, OneEach, all_entries}
use Rattle.lsm_model.specs.Merging.{Placed, entries_of, merge_all}
use Rattle.lsm_model.specs.Scanning.{IsScan, Pair, pairs_of}
use Rattle.lsm_model.proofs.CallerLemmas.{newest_is, one_each_part, all_has, has_all, one_each, placed_entry, entry_placed, merged_sorted, merged_from, merged_has, scan_is, true_or_not}
use Rattle.lsm_iterators.specs.Seeking.{at_or_past}
use Rattle.lsm_iterators.proofs.CallerLemmas.{past_all}
use Rattle.lsm_query.specs.Depths.{depth_of}
use Rattle.lsm_query.specs.Runs.{AreMergeable, AreRunsFrom}
use Rattle.lsm_version.specs.Versions.{AreInOrder, IsSound, Levels, files_from, files_of, level_in}
use Rattle.lsm_query.proofs.Finding.{newest_none, none_allowed, is_newest}
use Rattle.lsm_version.proofs.CallerLemmas.{lawful_part, of_level, order_in}

-- ---- the tables of a sound version can be merged

pub sound_mergeable : (v : Levels) → IsSound v → AreInOrder v.tables → AreMergeable v.tables
sound_mergeable v s order = record {
  whole = s.tables;
  deeper = λ n pos. record {
    lawful = lawful_part (files_from 0 v.tables) (files_of n (level_in v.tables n)) (of_level v.tables n) s.lawful;
    whole = s.tables n;
    order = order_in v.tables n order;
  };
}

-- ---- the merge of the runs has the entries of all files from the user key on

shown_from : (user : UserKey) (shallow : List Table) (v : List File) (ls : List (List Placed)) (e : Entry) → AreRunsFrom user shallow (Has v) ls → Has (entries_of (merge_all ls)) e
    → Has (at_or_past user (all_entries v)) e
shown_from user shallow v ls e a h =
    let q = entry_placed (merge_all ls) e h in
    let r = flat_has (λ (l : List Placed). l) ls q.0 (merged_from ls q.0 q.1) in
    let f = a.from r.0 q.0 r.1 r.2 in
    subst (λ (x : Entry). Has (at_or_past user (all_entries v)) x) q.2 (has_filter (λ (x : Entry). user_le user x.user) (all_entries v) q.0.1 (has_all v f.0 q.0.1 f.1 f.2) f.3)

has_shown : (user : UserKey) (shallow : List Table) (v : List File) (ls : List (List Placed)) (e : Entry) → AreRunsFrom user shallow (Has v) ls → Has (at_or_past user (all_entries v)) e
    → Has (entries_of (merge_all ls)) e
has_shown user shallow v ls e a h =
    let p = filter_has (λ (x : Entry). user_le user x.user) (all_entries v) e h in
    let f = all_has v e p.0 in
    let l = a.all f.0 e f.1 f.2 p.1 in
    placed_entry (merge_all ls) (depth_of shallow f.0, e) (merged_has ls (depth_of shallow f.0, e) (has_flat (λ (l : List Placed). l) ls l.0 (depth_of shallow f.0, e) l.1 l.2))

-- two lists with the same entries answer alike, where one of them has one each
pub newest_same : (k : UserKey) (s : ℕ) (es fs : List Entry) → OneEach fs → ((e : Entry) → Has es e → Has fs e) → ((e : Entry) → Has fs e → Has es e) → newest k s es ≡ newest k s fs
newest_same k s es fs one to from = go (newest k s fs) refl
  where
    go : (o : Option Entry) → newest k s fs ≡ o → newest k s es ≡ newest k s fs
    go None e = newest_none k s es (λ y h. none_allowed k s fs e y (to y h)) ∙ sym e
    go (Some e) is = (let n = is_newest k s fs e is in
        newest_is es k s e (one_each_part fs es to one) record { here = from e n.here; allowed = n.allowed; most = λ y h a. n.most y (to y h) a } ∙ sym is)

-- a user key at or past the first one has one answer in both
past_newest : (user : UserKey) (es : List Entry) (k : UserKey) (s : ℕ) → UserLe user k → newest k s (at_or_past user es) ≡ newest k s es
past_newest user [] k s p = refl
past_newest user (e ∷ es) k s p = go (user_le user e.user) refl (past_newest user es k s p)
  where
    go : (b : Bool) → user_le user e.user ≡ b → newest k s (at_or_past user es) ≡ newest k s es → newest k s (cond b (e ∷ at_or_past user es) (at_or_past user es)) ≡ newest k s (e ∷ es)
    go true u ih = ap (λ (o : Option Entry). cond (is_allowed k s e) (Some (first_of_two e o)) o) ih
    go false u ih = ih ∙ sym (ap (λ (b : Bool). cond b (Some (first_of_two e (newest k s es))) (newest k s es)) (true_or_not (is_allowed k s e)
        (λ a. absurd (cc (u, subst (UserLe user) (sym (allowed_says k s e a).key) p)))))

past_answer : (user : UserKey) (es : List Entry) (k : UserKey) (s : ℕ) → UserLe user k → answer (at_or_past user es) k s ≡ answer es k s
past_answer user es k s p = ap value_in (past_newest user es k s p)

-- and what has an answer among those is at or past it
past_key : (user : UserKey) (es : List Entry) (k : UserKey) (s : ℕ) (v : List ℕ) → answer (at_or_past user es) k s ≡ Some v → UserLe user k
past_key user es k s v h = go (newest k s (at_or_past user es)) refl h
  where
    go : (o : Option Entry) → newest k s (at_or_past user es) ≡ o → value_in o ≡ Some v → UserLe user k
    go None is t = absurd (cc t)
    go (Some e) is t = (let n = is_newest k s (at_or_past user es) e is in subst (UserLe user) n.allowed.key (filter_has (λ (x : Entry). user_le user x.user) es e n.here).1)

pub scan_of : (user : UserKey) (shallow : List Table) (v : List File) (ls : List (List Placed)) (s : ℕ) → IsLawful v → AreRunsFrom user shallow (Has v) ls
    → IsScan s (at_or_past user (all_entries v)) (pairs_of s None (entries_of (merge_all ls)))
scan_of user shallow v ls s lawful a = record {
  right = λ k w h. sym (same k) ∙ scan.right k w h;
  whole = λ k w h. scan.whole k w (same k ∙ h);
  ascending = scan.ascending;
}
  where
    scan : IsScan s (entries_of (merge_all ls)) (pairs_of s None (entries_of (merge_all ls)))
    scan = scan_is s (entries_of (merge_all ls)) (merged_sorted ls a.ordered)

    part : (e : Entry) → Has (at_or_past user (all_entries v)) e → Has (all_entries v) e
    part e h = (filter_has (λ (x : Entry). user_le user x.user) (all_entries v) e h).0

    same : (k : UserKey) → answer (entries_of (merge_all ls)) k s ≡ answer (at_or_past user (all_entries v)) k s
    same k = ap value_in (newest_same k s (entries_of (merge_all ls)) (at_or_past user (all_entries v))
        (one_each_part (all_entries v) (at_or_past user (all_entries v)) part (one_each v lawful)) (λ e h. shown_from user shallow v ls e a h) (λ e h. has_shown user shallow v ls e a h))

-- a scan from the least user key on is one of all
pub scan_from_least : (s : ℕ) (es : List Entry) (pairs : List Pair) → IsScan s (at_or_past [] es) pairs → IsScan s es pairs
scan_from_least s es pairs scan = subst (λ (xs : List Entry). IsScan s xs pairs) (past_all es) scan

-- what is told by a scan from a user key on, of all entries
pub past_scan : (s : ℕ) (user : UserKey) (es : List Entry) (pairs : List Pair) → IsScan s (at_or_past user es) pairs
    → ((k : UserKey) (v : List ℕ) → Has pairs (k, v) → UserLe user k × (answer es k s ≡ Some v)) × ((k : UserKey) (v : List ℕ) → UserLe user k → answer es k s ≡ Some v → Has pairs (k, v))
past_scan s user es pairs scan = (
  λ k v h. (let p = past_key user es k s v (scan.right k v h) in (p, sym (past_answer user es k s p) ∙ scan.right k v h)),
  λ k v p h. scan.whole k v (past_answer user es k s p ∙ h),
)
