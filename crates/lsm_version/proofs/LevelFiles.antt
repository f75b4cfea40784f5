-- The files of levels.
use Rattle.std.proofs.Common.{◌≡◌, ℕ, zero, suc, ◌+◌, ◌<◌, List, [], ◌∷◌, ◌++◌, length, get_or, refl, sym, ◌∙◌, ap, subst, inl, inr, arith, take, map}
use Rattle.std.specs.Prelude.{◌⊎◌}
use Rattle.lsm_codec.specs.Lists.{Has}
use Rattle.lsm_codec.specs.Keys.{UserKey}
use Rattle.lsm_codec.proofs.CallerLemmas.{has_left, has_right, has_cases}
use Rattle.lsm_table.specs.Registry.{Table}
use Rattle.lsm_table.specs.HeldTable.{entries_in}
use Rattle.lsm_model.specs.Checking.{Listed}
use Rattle.lsm_model.specs.Files.{File, Fits}
use Rattle.lsm_version.specs.Versions.{AreInOrder, IsWhole, file_of, files_of, files_from, level_in, user_of, stands_before}
use Rattle.lsm_model.proofs.CallerLemmas.{file_fits}
use Rattle.lsm_version.proofs.ChangedFiles.{files_has, has_files}
use Rattle.lsm_version.proofs.Rising.{user_of-key}
use Rattle.std.specs.List.Sorted.{IsSortedBy}
use Rattle.std.proofs.lemmas.List.{take_more}

pub file_in : (m : ℕ) (levels : List (List Table)) (F : File) → Has (files_from m levels) F → (n : ℕ) × (t : Table) × Has (level_in levels n) t × (file_of (m + n) t ≡ F)
file_in m [] F h = absurd h
file_in m (ts ∷ levels) F h = elim (has_cases (files_of m ts) (files_from (suc m) levels) F h) [
  | inl a ↦ (let r = files_has m ts F a in
      let here : m + 0 ≡ m = omega arith in
      (zero, r.0, r.1, ap (λ (n : ℕ). file_of n r.0) here ∙ r.2))
  | inr b ↦ (let r = file_in (suc m) levels F b in
      let there : m + suc r.0 ≡ suc m + r.0 = omega arith in
      (suc r.0, r.1, r.2, ap (λ (n : ℕ). file_of n r.1) there ∙ r.3))
]

pub in_files : (m : ℕ) (levels : List (List Table)) (n : ℕ) (t : Table) → Has (level_in levels n) t → Has (files_from m levels) (file_of (m + n) t)
in_files m [] n t h = absurd h
in_files m (ts ∷ levels) zero t h =
    let here : m ≡ m + 0 = omega arith in
    subst (λ (n : ℕ). Has (files_of m ts ++ files_from (suc m) levels) (file_of n t)) here (has_left (files_of m ts) (files_from (suc m) levels) (file_of m t) (has_files m ts t h))
in_files m (ts ∷ levels) (suc n) t h =
    let there : suc m + n ≡ m + suc n = omega arith in
    subst (λ (k : ℕ). Has (files_of m ts ++ files_from (suc m) levels) (file_of k t)) there (has_right (files_of m ts) (files_from (suc m) levels) (file_of (suc m + n) t) (in_files (suc m) levels n t h))

pub inside : (levels : List (List Table)) (n : ℕ) (t : Table) → Has (level_in levels n) t → n < length levels
inside [] n t h = absurd h
inside (ts ∷ levels) zero t h = omega arith
inside (ts ∷ levels) (suc n) t h = let lt = inside levels n t h in omega arith

pub of_level : (levels : List (List Table)) (n : ℕ) (X : File) → Has (files_of n (level_in levels n)) X → Has (files_from 0 levels) X
of_level levels n X h =
    let r = files_has n (level_in levels n) X h in
    let here : 0 + n ≡ n = omega arith in
    subst (Has (files_from 0 levels)) (ap (λ (m : ℕ). file_of m r.0) here ∙ r.2) (in_files 0 levels n r.0 r.1)

listed : (t : Table) → IsWhole t → Listed
listed t w = record { number = t.number; range = w.range; entries = entries_in t.image }

pub table_fits : (n : ℕ) (t : Table) → IsWhole t → Fits (file_of n t)
unfolding listed
table_fits n t w =
    subst Fits
    (ap (λ (k : UserKey). let F : File = record { level = n; number = t.number; low = k; high = w.range.largest.user; entries = entries_in t.image } in F) (sym (user_of-key t.smallest w.range.smallest w.smallest))
    ∙ ap (λ (k : UserKey). let F : File = record { level = n; number = t.number; low = user_of t.smallest; high = k; entries = entries_in t.image } in F) (sym (user_of-key t.largest w.range.largest w.largest)))
    (file_fits n (listed t w) w.entries)

pub files_push : (n : ℕ) (ts : List Table) (x : Table) (Y : File) → Has (files_of n (ts ++ x ∷ [])) Y → Has (files_of n ts) Y ⊎ (file_of n x ≡ Y)
files_push n [] x Y (inl e) = inr e
files_push n [] x Y (inr h) = absurd h
files_push n (t ∷ ts) x Y (inl e) = inl (inl e)
files_push n (t ∷ ts) x Y (inr h) = elim (files_push n ts x Y h) [ inl l ↦ inl (inr l) | inr e ↦ inr e ]

pub push_left : (n : ℕ) (ts : List Table) (x : Table) (Y : File) → Has (files_of n ts) Y → Has (files_of n (ts ++ x ∷ [])) Y
push_left n [] x Y h = absurd h
push_left n (t ∷ ts) x Y (inl e) = inl e
push_left n (t ∷ ts) x Y (inr h) = inr (push_left n ts x Y h)

pub push_last : (n : ℕ) (ts : List Table) (x : Table) → Has (files_of n (ts ++ x ∷ [])) (file_of n x)
push_last n [] x = inl refl
push_last n (t ∷ ts) x = inr (push_last n ts x)

pub took : (ts : List Table) (i : ℕ) (x : Table) → i < length ts → x ≡ get_or ts i x → take (i + 1) ts ≡ take i ts ++ x ∷ []
took ts i x lt is = take_more ts i x lt ∙ ap (λ (y : Table). take i ts ++ y ∷ []) (sym is)

pub level_in-map : {X : Type 0} (f : X → List Table) (xs : List X) (n : ℕ) (x : X) → n < length xs → x ≡ get_or xs n x → level_in (map f xs) n ≡ f x
level_in-map f [] n x lt is = absurd (omega arith)
level_in-map f (y ∷ ys) zero x lt is = ap f (sym is)
level_in-map f (y ∷ ys) (suc n) x lt is = level_in-map f ys n x (omega arith) is

pub order_in : (levels : List (List Table)) (n : ℕ) → AreInOrder levels → IsSortedBy stands_before (level_in levels n)
order_in [] n a = λ k d low lt. absurd (omega arith)
order_in (ts ∷ levels) zero a = a.0
order_in (ts ∷ levels) (suc n) a = order_in levels n a.1
