-- A scan that begins where the bounds do: what it prints is printed of all pairs.
use Rattle.std.proofs.Common.{◌≡◌, ◌≢◌, ℕ, ◌<◌, Bool, true, false, cond, List, [], ◌∷◌, ◌++◌}
use Rattle.std.proofs.Common.{length, take, Option, Some, Ordering, Less, Equal, Greater, refl, sym}
use Rattle.std.proofs.Common.{ap, ◌∙◌, subst, arith, inr}
use Rattle.std.specs.Prelude.{◌&&◌, ◌==◌, Result, Ok, Err, IfErr, OnOk}
use Rattle.std.specs.Cmp.{ranks}
use Rattle.std.specs.Cmp.Lexicographic.{pointwise, slice_cmp}
use Rattle.std.specs.Io.KnownBytes.{Appends}
use Rattle.std.specs.List.{filter, starts_with}
use Rattle.std.specs.Ordering.{MatchOrdering, is_le, nat_cmp, ordering_then}
use Rattle.lsm_codec.specs.Keys.{UserKey, UserLe, user_le}
use Rattle.lsm_model.specs.Files.{all_entries}
use Rattle.lsm_model.specs.Scanning.{IsScan, Pair}
use Rattle.lsm_model.proofs.CallerLemmas.{one_each, true_or_not}
use Rattle.lsm_directory.specs.declared.faults.directory_fault.DirectoryFault.{DirectoryFault}
use Rattle.lsm_directory.specs.declared.faults.directory_fault.DirectoryFault.TheVariants.{Write}
use Rattle.lsm_iterators.specs.Seeking.{at_or_past}
use Rattle.lsm_query.proofs.CallerLemmas.{past_pairs, some_scan}
use Rattle.lsm_version.specs.Versions.{IsSound, Levels, files}
use Rattle.lsm_requests.specs.KeyBounds.{begins_so, is_from, is_to, is_within}
use Rattle.lsm_requests.specs.declared.key_bounds.KeyBounds.{KeyBounds}
use Rattle.lsm_text.specs.declared.form.Form.{Form}
use Rattle.lsm_requests.specs.declared.scan_options.ScanOptions.{ScanOptions}
use Rattle.lsm_cmd_read.specs.Scanned.{BeginsPrinting, LeavesScan, PrintsScan, at_most, count_line}
use Rattle.lsm_cmd_read.specs.Scanned.{lines_of, scan_text, within}

-- ---- no key within the bounds is below their beginning

firstly : (a b c : Bool) → (a && b && c) ≡ true → a ≡ true
firstly true b c h = refl
firstly false b c h = absurd cc

lastly : (a b c : Bool) → (a && b && c) ≡ true → c ≡ true
lastly true true c h = h
lastly true false c h = absurd cc
lastly false b c h = absurd cc

pub from_first : (bounds : KeyBounds) (from key : UserKey) → bounds.from ≡ Some from
    → is_within bounds key ≡ true → UserLe from key
from_first bounds from key is h =
    subst (λ (o : Option UserKey). is_from o key ≡ true) is
    (firstly (is_from bounds.from key) (is_to bounds.to key) (begins_so bounds.prefix key) h)

-- the first bytes of a beginning and of a key, and what holds of the others
heads : (p k : ℕ) (o r : Ordering) (rest : Bool) → MatchOrdering o (p < k) (p ≡ k) (k < p)
    → ((p == k) && rest) ≡ true → (rest ≡ true → is_le r ≡ true) → is_le (ordering_then o r) ≡ true
heads p k Less r rest a h more = refl
heads p k Equal r rest a h more = more (second (p == k) h)
  where
    second : (b : Bool) → (b && rest) ≡ true → rest ≡ true
    second true h = h
    second false h = absurd cc
heads p k Greater r rest a h more = absurd (clash (p == k) other h)
  where
    other : (p == k) ≡ false
    other = grind (arith, a)

    clash : (b : Bool) → b ≡ false → (b && rest) ≡ true → ⊥
    clash true e h = absurd cc
    clash false e h = absurd cc

begins_le : (prefix key : UserKey) → starts_with ◌==◌ key prefix ≡ true
    → is_le (slice_cmp nat_cmp prefix key) ≡ true
begins_le [] [] h = refl
begins_le [] (k ∷ ks) h = refl
begins_le (p ∷ ps) [] h = absurd cc
begins_le (p ∷ ps) (k ∷ ks) h =
    heads p k (nat_cmp p k) (slice_cmp nat_cmp ps ks) (pointwise ◌==◌ ps (take (length ps) ks))
    (ranks p k) h (λ rest. begins_le ps ks rest)

pub from_prefix : (bounds : KeyBounds) (prefix key : UserKey) → bounds.prefix ≡ Some prefix
    → is_within bounds key ≡ true → UserLe prefix key
unfolding user_le
from_prefix bounds prefix key is h =
    begins_le prefix key
    (subst (λ (o : Option UserKey). begins_so o key ≡ true) is
    (lastly (is_from bounds.from key) (is_to bounds.to key) (begins_so bounds.prefix key) h))

-- ---- the pairs within the bounds

-- no key within the bounds is below this one
abbrev pub IsBegun : KeyBounds → UserKey → Type 0
IsBegun bounds user = (key : UserKey) → is_within bounds key ≡ true → UserLe user key

within_past : (bounds : KeyBounds) (user : UserKey) (ps : List Pair) → IsBegun bounds user
    → within bounds (filter (λ p. user_le user p.0) ps) ≡ within bounds ps
unfolding within
within_past bounds user [] first = refl
within_past bounds user (p ∷ ps) first =
    go (user_le user p.0) refl (within_past bounds user ps first)
  where
    past : List Pair
    past = filter (λ (q : Pair). user_le user q.0) ps

    go : (b : Bool) → user_le user p.0 ≡ b
        → filter (λ (q : Pair). is_within bounds q.0) past ≡ filter
        (λ (q : Pair). is_within bounds q.0) ps
        → filter (λ (q : Pair). is_within bounds q.0) (cond b (p ∷ past) past) ≡ filter
        (λ (q : Pair). is_within bounds q.0) (p ∷ ps)
    go true e rest = ap (λ (l : List Pair). cond (is_within bounds p.0) (p ∷ l) l) rest
    go false e rest =
        rest ∙ sym
        (ap (λ (b : Bool). cond b (p ∷ filter (λ (q : Pair). is_within bounds q.0) ps)
        (filter (λ (q : Pair). is_within bounds q.0) ps))
        (true_or_not (is_within bounds p.0) (λ inside. absurd (cc (first p.0 inside, e)))))

-- the pairs of all user keys, of which those that are left are the same within the bounds
pub record Shows (v : Levels) (bounds : KeyBounds) (left : List Pair) : Type 0 where
  pub pairs : List Pair
  pub scan : IsScan v.last (all_entries (files v)) pairs
  pub same : within bounds left ≡ within bounds pairs

pub shows : (v : Levels) (bounds : KeyBounds) (user : UserKey) (left : List Pair) → IsSound v
    → IsScan v.last (at_or_past user (all_entries (files v))) left → IsBegun bounds user
    → Shows v bounds left
shows v bounds user left sound past first =
    let all = some_scan v.last (all_entries (files v)) (one_each (files v) sound.lawful) in
    record {
      pairs = all.0;
      scan = all.1;
      same = ap (within bounds)
          (past_pairs v.last user (all_entries (files v)) all.0 left all.1 past)
          ∙ within_past bounds user all.0 first;
    }

module _ (form : Form) where
  pub done_scan : (r : Result Unit DirectoryFault) (options : ScanOptions) (v : Levels)
      (left : List Pair) (a b : Option (List ℕ)) → Shows v options.bounds left
      → OnOk r (Appends a b (scan_text form options left)) → OnOk r (PrintsScan form options v a b)
  done_scan (Ok x) options v left a b s h = (
    s.pairs,
    s.scan,
    subst
        (λ (ps : List Pair). Appends a b
        (lines_of form options.output (at_most options.limit ps) ++ count_line options.output
        (length (at_most options.limit ps)))) s.same h,
  )
  done_scan (Err e) options v left a b s h = tt

  -- what a scan that was begun leaves
  pub left_scan : (r : Result Unit DirectoryFault) (Honest : Type 0) (options : ScanOptions)
      (v : Levels) (left : List Pair) (a b : Option (List ℕ))
      → (Honest → Shows v options.bounds left)
      → (Honest → IfErr r (λ e. e ≢ Write → BeginsPrinting form options left a b))
      → IfErr r (λ e. e ≢ Write → LeavesScan form options Honest v a b)
  left_scan (Ok x) Honest options v left a b all h = tt
  left_scan (Err e) Honest options v left a b all h = λ other. inr (λ honest. (let s = all honest in
      let begun = h honest other in (
        s.pairs,
        s.scan,
        (
          begun.0,
          begun.1,
          ap (at_most options.limit) (sym s.same)
              ∙ begun.2,
          begun.3,
        ),
      )))
