-- The files of a version are those of its levels' tables.
use Rattle.std.proofs.Common.{◌≡◌, ℕ, zero, suc, ◌+◌, ◌<◌, ◌≤◌, length, true, List, [], ◌∷◌, refl, sym, ◌∙◌, ap, subst, inl, inr, arith}
use Rattle.std.specs.Prelude.{◌&&◌}
use Rattle.std.proofs.lemmas.Bool.{and_parts, and_from}
use Rattle.lsm_codec.specs.Keys.{UserKey, UserLe, user_le}
use Rattle.lsm_codec.specs.Lists.{Has}
use Rattle.lsm_codec.proofs.CallerLemmas.{has_cases, has_left, has_right}
use Rattle.lsm_table.specs.Registry.{Table}
use Rattle.lsm_model.specs.Files.{File, Meets}
use Rattle.lsm_version.specs.Overlap.{meets}
use Rattle.lsm_version.specs.Versions.{IsSound, Levels, file_of, files, files_from, files_of, level_in, user_of}

pub has_files : (n : ℕ) (us : List Table) (t : Table) → Has us t → Has (files_of n us) (file_of n t)
has_files n [] t h = absurd h
has_files n (u ∷ us) t (inl same) = inl (ap (file_of n) same)
has_files n (u ∷ us) t (inr h) = inr (has_files n us t h)

pub files_has : (n : ℕ) (us : List Table) (F : File) → Has (files_of n us) F → (t : Table) × Has us t × (file_of n t ≡ F)
files_has n [] F h = absurd h
files_has n (u ∷ us) F (inl same) = (u, inl refl, same)
files_has n (u ∷ us) F (inr h) = (let r = files_has n us F h in (r.0, inr r.1, r.2))

from_level : (levels : List (List Table)) (m n k : ℕ) (t : Table) → k ≡ m + n → Has (level_in levels n) t → Has (files_from m levels) (file_of k t)
from_level [] m n k t e h = absurd h
from_level (ts ∷ levels) m zero k t e h =
    let same : m ≡ k = omega arith in
    has_left (files_of m ts) (files_from (suc m) levels) (file_of k t) (subst (λ (j : ℕ). Has (files_of j ts) (file_of k t)) (sym same) (has_files k ts t h))
from_level (ts ∷ levels) m (suc n) k t e h =
    has_right (files_of m ts) (files_from (suc m) levels) (file_of k t) (from_level levels (suc m) n k t (omega arith) h)

to_level : (levels : List (List Table)) (m : ℕ) (F : File) → Has (files_from m levels) F
    → (n : ℕ) × (t : Table) × Has (level_in levels n) t × (file_of (m + n) t ≡ F)
to_level [] m F h = absurd h
to_level (ts ∷ levels) m F h = elim (has_cases (files_of m ts) (files_from (suc m) levels) F h) [
  | inl here ↦ (let r = files_has m ts F here in let same : m + 0 ≡ m = omega arith in (0, r.0, r.1, ap (λ (j : ℕ). file_of j r.0) same ∙ r.2))
  | inr there ↦ (let r = to_level levels (suc m) F there in let same : m + suc r.0 ≡ suc m + r.0 = omega arith in
      (suc r.0, r.1, r.2, ap (λ (j : ℕ). file_of j r.1) same ∙ r.3))
]

-- a table of a level is a file of the version
pub in_files : (v : Levels) (n : ℕ) (t : Table) → Has (level_in v.tables n) t → Has (files v) (file_of n t)
in_files v n t h = from_level v.tables 0 n n t (omega arith) h

-- a file of the version is a table of its level
pub files_in : (v : Levels) (n : ℕ) (F : File) → Has (files v) F → F.level ≡ n → (t : Table) × Has (level_in v.tables n) t × (file_of n t ≡ F)
files_in v n F h at =
    let r = to_level v.tables 0 F h in
    let level : 0 + r.0 ≡ n = ap (λ (G : File). G.level) r.3 ∙ at in
    let same : r.0 ≡ n = omega arith in
    (r.1, subst (λ (j : ℕ). Has (level_in v.tables j) r.1) same r.2, ap (λ (j : ℕ). file_of j r.1) (sym level) ∙ r.3)

-- in a sound version each file's range is one
pub own_range : (v : Levels) (F : File) → IsSound v → Has (files v) F → UserLe F.low F.high
own_range v F s h = (let fit = s.lawful.fits F h in let e = fit.first in subst (λ (k : UserKey). UserLe k F.high) e.2 (fit.below e.0 e.1))

pub own_table : (v : Levels) (n : ℕ) (t : Table) → IsSound v → Has (level_in v.tables n) t → UserLe (user_of t.smallest) (user_of t.largest)
own_table v n t s h = own_range v (file_of n t) s (in_files v n t h)

-- ---- ranges that meet

pub meets_says : (from to : UserKey) (n : ℕ) (t : Table) → meets from to t ≡ true → UserLe from to × Meets (file_of n t) from to
meets_says from to n t h =
    let p = and_parts (user_le from to) (user_le (user_of t.smallest) to && user_le from (user_of t.largest)) h in
    (p.0, and_parts (user_le (user_of t.smallest) to) (user_le from (user_of t.largest)) p.1)

pub meets_from : (from to : UserKey) (n : ℕ) (t : Table) → UserLe from to → Meets (file_of n t) from to → meets from to t ≡ true
meets_from from to n t le m =
    and_from (user_le from to) (user_le (user_of t.smallest) to && user_le from (user_of t.largest)) le
    (and_from (user_le (user_of t.smallest) to) (user_le from (user_of t.largest)) m.0 m.1)

-- ---- levels

inside_levels : (levels : List (List Table)) (n : ℕ) (t : Table) → Has (level_in levels n) t → n < length levels
inside_levels [] n t h = absurd h
inside_levels (ts ∷ levels) zero t h = omega arith
inside_levels (ts ∷ levels) (suc n) t h = (let lt = inside_levels levels n t h in omega arith)

-- the file of a version of that many levels has a level below that
pub level_below : (v : Levels) (F : File) → Has (files v) F → F.level < length v.tables
level_below v F h = (let r = files_in v F.level F h refl in inside_levels v.tables F.level r.0 r.1)

pub no_level : (levels : List (List Table)) (n : ℕ) → length levels ≤ n → level_in levels n ≡ []
no_level [] n le = refl
no_level (ts ∷ levels) zero le = absurd (omega arith)
no_level (ts ∷ levels) (suc n) le = no_level levels n (omega arith)
