-- What a second look at the files that are not settled says of the age order of all.
use Rattle.std.proofs.Common.{◌≡◌, ℕ, ◌+◌, ◌<◌, ◌≤◌, true, List, [], ◌∷◌, ◌++◌, length, get_or, take, map, Ok, Err, refl, sym, ◌∙◌, ap, subst, inl, inr, arith}
use Rattle.std.specs.Prelude.{◌==◌, MatchOption, Option, Result, is_ok}
use Rattle.std.specs.List.{filter, list_any}
use Rattle.std.specs.List.Sorted.{IsBinarySearchResult, IsNonDecreasing}
use Rattle.std.specs.Ordering.{nat_cmp}
use Rattle.std.proofs.lemmas.List.{get_or_default, map-append, take_more}
use Rattle.std.proofs.lemmas.List.Sorted.{searched}
use Rattle.std.proofs.lemmas.Bool.{cases_lt, eq-eqb, eqb-true}
use Rattle.lsm_codec.specs.Lists.{Has}
use Rattle.lsm_codec.specs.Keys.{UserKey}
use Rattle.lsm_codec.specs.Entries.{Entry}
use Rattle.lsm_codec.proofs.CallerLemmas.{any_at, any_says, contains_from, contains_says, has_filter, filter_has, has_flat, flat_has}
use Rattle.lsm_table.specs.Registry.{Table}
use Rattle.lsm_model.specs.Ages.{IsAgeOrder, IsAgainstAge, IsLeastAgainstAge}
use Rattle.lsm_model.specs.Files.{File, Fits, Shallower}
use Rattle.lsm_model.specs.Merging.{Placed, AreOrdered, IsOrdered, merge_all}
use Rattle.lsm_model.proofs.CallerLemmas.{merged_from, merged_has, merged_ordered, true_or_not}
use Rattle.lsm_verify.specs.CheckRefusal.{IsAgainst, IsLeastAgainst}
use Rattle.lsm_query.specs.Depths.{depth_of}
use Rattle.lsm_query.specs.Runs.{AreRunsOf}
use Rattle.lsm_verify.specs.Chosen.{chosen, is_among}
use Rattle.lsm_verify.specs.Settled.{KeepsAge, IsUnsettled, AreUnsettled, IsSettled}
use Rattle.lsm_version.specs.Versions.{files_from, level_in}
use Rattle.lsm_query.proofs.CallerLemmas.{shallower_less, less_shallower}
use Rattle.lsm_version.proofs.CallerLemmas.{file_in, in_files}
use Rattle.lsm_verify.proofs.Chosen.{level_in-chosen}
use Rattle.lsm_verify.proofs.UnsettledFiles.{meets_by, settled_keeps}

-- ---- files of chosen tables

pub chosen_file : (numbers : List ℕ) (levels : List (List Table)) (F : File) → Has (files_from 0 levels) F → Has numbers F.number → Has (files_from 0 (chosen numbers levels)) F
chosen_file numbers levels F h k =
    let r = file_in 0 levels F h in
    let number : F.number ≡ r.1.number = sym (ap (λ (G : File). G.number) r.3) in
    let among : is_among numbers r.1 ≡ true = any_at (λ n. n == r.1.number) numbers F.number k (eq-eqb F.number r.1.number number) in
    let there : Has (level_in (chosen numbers levels) r.0) r.1 =
    subst (λ (ts : List Table). Has ts r.1) (sym (level_in-chosen numbers levels r.0)) (has_filter (is_among numbers) (level_in levels r.0) r.1 r.2 among) in
    subst (Has (files_from 0 (chosen numbers levels))) r.3 (in_files 0 (chosen numbers levels) r.0 r.1 there)

pub file_chosen : (numbers : List ℕ) (levels : List (List Table)) (F : File) → Has (files_from 0 (chosen numbers levels)) F → Has (files_from 0 levels) F
file_chosen numbers levels F h =
    let r = file_in 0 (chosen numbers levels) F h in
    let there : Has (level_in levels r.0) r.1 = (filter_has (is_among numbers) (level_in levels r.0) r.1 (subst (λ (ts : List Table). Has ts r.1) (level_in-chosen numbers levels r.0) r.2)).0 in
    subst (Has (files_from 0 levels)) r.3 (in_files 0 levels r.0 r.1 there)

-- a file of level 0 is a table of it
pub among : (levels : List (List Table)) (F : File) → Has (files_from 0 levels) F → F.level ≡ 0 → (t : Table) × Has (level_in levels 0) t × (t.number ≡ F.number)
among levels F h z =
    let r = file_in 0 levels F h in
    let level : r.0 ≡ 0 = (let e = ap (λ (X : File). X.level) r.3 in omega arith) in
    (r.1, subst (λ (n : ℕ). Has (level_in levels n) r.1) level r.2, ap (λ (X : File). X.number) r.3)

-- ---- the merge of runs

merged_entry : (shallow : List Table) (P : File → Type 0) (ls : List (List Placed)) (F : File) (e : Entry) → AreRunsOf shallow P ls → P F → Has F.entries e → Has (merge_all ls) (depth_of shallow F, e)
merged_entry shallow P ls F e a p k =
    let r = a.all F e p k in
    merged_has ls (depth_of shallow F, e) (has_flat (λ l. l) ls r.0 (depth_of shallow F, e) r.1 r.2)

entry_merged : (shallow : List Table) (P : File → Type 0) (ls : List (List Placed)) (p : Placed) → AreRunsOf shallow P ls → Has (merge_all ls) p
    → (F : File) × P F × Has F.entries p.1 × (p.0 ≡ depth_of shallow F)
entry_merged shallow P ls p a h = let r = flat_has (λ l. l) ls p (merged_from ls p h) in a.from r.0 p r.1 r.2

-- ---- from the files that were looked at to all

-- the entries of a pair against age are both in the merge
pair_merged : (numbers : List ℕ) (levels : List (List Table)) (ls : List (List Placed)) (F G : File) (x y : Entry) → AreUnsettled (files_from 0 levels) numbers
    → AreRunsOf (level_in (chosen numbers levels) 0) (Has (files_from 0 (chosen numbers levels))) ls → ((H : File) → Has (files_from 0 levels) H → Fits H)
    → Has (files_from 0 levels) F → Has (files_from 0 levels) G → Shallower F G → Has F.entries x → Has G.entries y → x.user ≡ y.user → x.seq ≤ y.seq
    → Has (merge_all ls) (depth_of (level_in (chosen numbers levels) 0) F, x) × Has (merge_all ls) (depth_of (level_in (chosen numbers levels) 0) G, y)
    × (depth_of (level_in (chosen numbers levels) 0) F < depth_of (level_in (chosen numbers levels) 0) G)
pair_merged numbers levels ls F G x y un runs fits hF hG s kx ky same le =
    let unsettled : IsUnsettled F G = (s, meets_by F G x y (fits F hF) (fits G hG) kx ky same, (x, y, kx, ky, le)) in
    let cF = chosen_file numbers levels F hF (un.first F G (hF, hG) unsettled) in
    let cG = chosen_file numbers levels G hG (un.second F G (hF, hG) unsettled) in
    let shallow = level_in (chosen numbers levels) 0 in (
      merged_entry shallow (Has (files_from 0 (chosen numbers levels))) ls F x runs cF kx,
      merged_entry shallow (Has (files_from 0 (chosen numbers levels))) ls G y runs cG ky,
      shallower_less shallow F G (among (chosen numbers levels) F cF) s,
    )

pub looked_keeps : (numbers : List ℕ) (levels : List (List Table)) (ls : List (List Placed)) → AreUnsettled (files_from 0 levels) numbers
    → AreRunsOf (level_in (chosen numbers levels) 0) (Has (files_from 0 (chosen numbers levels))) ls → ((H : File) → Has (files_from 0 levels) H → Fits H)
    → IsAgeOrder (merge_all ls) → KeepsAge (files_from 0 levels)
looked_keeps numbers levels ls un runs fits ages F G x y hF hG s kx ky same = elim (cases_lt y.seq x.seq) [
  | inl lt ↦ lt
  | inr le ↦ (let m = pair_merged numbers levels ls F G x y un runs fits hF hG s kx ky same le in
      let shallow = level_in (chosen numbers levels) 0 in
      ages (depth_of shallow F, x) (depth_of shallow G, y) m.0 m.1 same m.2)
]

pub looked_least : (numbers : List ℕ) (levels : List (List Table)) (ls : List (List Placed)) (k : UserKey) → AreUnsettled (files_from 0 levels) numbers
    → AreRunsOf (level_in (chosen numbers levels) 0) (Has (files_from 0 (chosen numbers levels))) ls → ((H : File) → Has (files_from 0 levels) H → Fits H)
    → IsLeastAgainstAge (merge_all ls) k → IsLeastAgainst (files_from 0 levels) k
looked_least numbers levels ls k un runs fits l = record { here = says l.here; least = λ other h. l.least other (from other h) }
  where
    shallow : List Table
    shallow = level_in (chosen numbers levels) 0

    says : IsAgainstAge (merge_all ls) k → IsAgainst (files_from 0 levels) k
    says (p, q, hp, hq, up, uq, lt, le) =
        let f = entry_merged shallow (Has (files_from 0 (chosen numbers levels))) ls p runs hp in
        let g = entry_merged shallow (Has (files_from 0 (chosen numbers levels))) ls q runs hq in
        let df = f.3 in
        let dg = g.3 in (
          f.0,
          g.0,
          p.1,
          q.1,
          file_chosen numbers levels f.0 f.1,
          file_chosen numbers levels g.0 g.1,
          less_shallower shallow f.0 g.0 (omega arith),
          f.2,
          g.2,
          up,
          uq,
          le,
        )

    from : (other : UserKey) → IsAgainst (files_from 0 levels) other → IsAgainstAge (merge_all ls) other
    from other (F, G, x, y, hF, hG, s, kx, ky, ux, uy, le) =
        let m = pair_merged numbers levels ls F G x y un runs fits hF hG s kx ky (ux ∙ sym uy) le in
        ((depth_of shallow F, x), (depth_of shallow G, y), m.0, m.1, ux, uy, m.2, le)

-- ---- where no number was found

pub none_settled : (levels : List (List Table)) (numbers : List ℕ) → AreUnsettled (files_from 0 levels) numbers → numbers ≡ [] → IsSettled (files_from 0 levels)
none_settled levels numbers un none F G hF hG u = subst (λ (ns : List ℕ). Has ns F.number) none (un.first F G (hF, hG) u)

-- and where one was, the files are not settled
pub some_unsettled : (levels : List (List Table)) (numbers : List ℕ) (n : ℕ) → AreUnsettled (files_from 0 levels) numbers → Has numbers n → IsSettled (files_from 0 levels) → ⊥
some_unsettled levels numbers n un h settled = elim (un.said n h) [
  | inl none ↦ absurd none
  | inr (F, G, both, u, is) ↦ settled F G both.0 both.1 u
]

-- ---- numbers that are looked up

pub among_found : (numbers : List ℕ) (number : ℕ) (r : Result ℕ ℕ) → IsBinarySearchResult (λ y. nat_cmp y number) numbers r → IsNonDecreasing numbers → is_ok r ≡ list_any (λ n. n == number) numbers
among_found numbers number (Ok i) h up =
    let at = searched numbers number (Ok i) h (λ a b le lt. up a b 0 le lt) in
    let there : Has numbers number = contains_says numbers number (i, at.0, get_or_default numbers i number 0 at.0 ∙ at.1) in
    sym (any_at (λ n. n == number) numbers number there (eq-eqb number number refl))
among_found numbers number (Err i) h up =
    sym (true_or_not (list_any (λ n. n == number) numbers) (λ t.
    (let a = any_says (λ n. n == number) numbers t in
    let same : a.0 ≡ number = eqb-true a.0 number a.2 in
    let at = contains_from numbers a.0 a.1 in
    let value : get_or numbers at.0 0 ≡ number = get_or_default numbers at.0 0 a.0 at.1 ∙ at.2 ∙ same in
    let parts = searched numbers number (Err i) h (λ x y le lt. up x y 0 le lt) in
    elim (cases_lt at.0 i) [
      | inl below ↦ (let lt = parts.1 at.0 below in absurd (omega arith))
      | inr above ↦ (let lt = parts.2 at.0 above at.1 in absurd (omega arith))
    ])))

pub chosen_more : {X : Type 0} (f : X → List Table) (numbers : List ℕ) (xs : List X) (i : ℕ) (x : X) (done done' : List (List Table)) (ts : List Table) → i < length xs → x ≡ get_or xs i x
    → ts ≡ filter (is_among numbers) (f x) → done' ≡ done ++ ts ∷ [] → done ≡ chosen numbers (map f (take i xs)) → done' ≡ chosen numbers (map f (take (i + 1) xs))
chosen_more f numbers xs i x done done' ts lt is made grown before =
    grown ∙ ap (λ (d : List (List Table)). d ++ ts ∷ []) before ∙ ap (λ (t : List Table). chosen numbers (map f (take i xs)) ++ t ∷ []) made
    ∙ sym (map-append (λ (us : List Table). filter (is_among numbers) us) (map f (take i xs)) (f x ∷ []))
    ∙ ap (λ (ls : List (List Table)). chosen numbers ls) (sym (map-append f (take i xs) (x ∷ [])) ∙ ap (map f) (ap (λ y. take i xs ++ y ∷ []) is ∙ sym (take_more xs i x lt)))

-- ---- what a second look says

pub looked_none : (numbers : List ℕ) (levels some : List (List Table)) (ls : List (List Placed)) (merged : List Placed) → AreUnsettled (files_from 0 levels) numbers → some ≡ chosen numbers levels
    → AreRunsOf (level_in some 0) (Has (files_from 0 some)) ls → ((H : File) → Has (files_from 0 levels) H → Fits H) → merged ≡ merge_all ls → (IsOrdered merged → IsAgeOrder merged)
    → KeepsAge (files_from 0 levels)
looked_none numbers levels some ls merged un is runs fits at judged =
    let there : AreRunsOf (level_in (chosen numbers levels) 0) (Has (files_from 0 (chosen numbers levels))) ls =
    subst (λ (ts : List (List Table)). AreRunsOf (level_in ts 0) (Has (files_from 0 ts)) ls) is runs in
    let ordered : IsOrdered merged = subst IsOrdered (sym at) (merged_ordered ls runs.ordered) in
    looked_keeps numbers levels ls un there fits (subst IsAgeOrder at (judged ordered))

pub looked_some : (numbers : List ℕ) (levels some : List (List Table)) (ls : List (List Placed)) (merged : List Placed) (k : UserKey) → AreUnsettled (files_from 0 levels) numbers → some ≡ chosen numbers levels
    → AreRunsOf (level_in some 0) (Has (files_from 0 some)) ls → ((H : File) → Has (files_from 0 levels) H → Fits H) → merged ≡ merge_all ls → (IsOrdered merged → IsLeastAgainstAge merged k)
    → IsLeastAgainst (files_from 0 levels) k
looked_some numbers levels some ls merged k un is runs fits at judged =
    let there : AreRunsOf (level_in (chosen numbers levels) 0) (Has (files_from 0 (chosen numbers levels))) ls =
    subst (λ (ts : List (List Table)). AreRunsOf (level_in ts 0) (Has (files_from 0 ts)) ls) is runs in
    let ordered : IsOrdered merged = subst IsOrdered (sym at) (merged_ordered ls runs.ordered) in
    looked_least numbers levels ls k un there fits (subst (λ (ps : List Placed). IsLeastAgainstAge ps k) at (judged ordered))

pub not_settled : (levels : List (List Table)) (numbers : List ℕ) → AreUnsettled (files_from 0 levels) numbers → (length numbers ≡ 0 → ⊥) → IsSettled (files_from 0 levels) → ⊥
not_settled levels [] un some = absurd (some refl)
not_settled levels (n ∷ ns) un some = some_unsettled levels (n ∷ ns) n un (inl refl)

pub all_settled : (levels : List (List Table)) (numbers : List ℕ) → AreUnsettled (files_from 0 levels) numbers → ((H : File) → Has (files_from 0 levels) H → Fits H) → length numbers ≡ 0 → KeepsAge (files_from 0 levels)
all_settled levels [] un fits none = settled_keeps (files_from 0 levels) fits (none_settled levels [] un refl)
all_settled levels (n ∷ ns) un fits none = absurd (omega arith)

pub merged_judged : (ls : List (List Placed)) (merged : List Placed) (r : Option UserKey) → AreOrdered ls → merged ≡ merge_all ls
    → (IsOrdered merged → MatchOption r (IsAgeOrder merged) (λ k. IsLeastAgainstAge merged k)) → MatchOption r (IsAgeOrder (merge_all ls)) (λ k. IsLeastAgainstAge (merge_all ls) k)
merged_judged ls merged r ordered at judged =
    let there : IsOrdered merged = subst IsOrdered (sym at) (merged_ordered ls ordered) in
    subst (λ (ps : List Placed). MatchOption r (IsAgeOrder ps) (λ k. IsLeastAgainstAge ps k)) at (judged there)
