-- Which level is due, and the file from which its compaction starts.
use Rattle.std.proofs.Common.{◌≡◌, ℕ, zero, suc, ◌+◌, ◌<◌, ◌≤◌, Bool, true, false, List, [], ◌∷◌}
use Rattle.std.proofs.Common.{◌++◌, length, take, drop, get_or, Option, Some, None, refl, sym}
use Rattle.std.proofs.Common.{◌∙◌, ap, subst, inl, inr, arith}
use Rattle.std.specs.Prelude.{◌⊎◌}
use Rattle.std.proofs.Math.Nat.{eq-or-lt_of_le}
use Rattle.std.proofs.lemmas.List.{drop_more, take-append-drop}
use Rattle.lsm_manifest.specs.declared.file_meta.FileMeta.{FileMeta}
use Rattle.lsm_manifest.specs.declared.shape.Shape.{Shape}
use Rattle.lsm_cmd_levels.specs.Dues.{IsBefore, IsDue, IsFirstDue, IsStart, NoneBeyond, is_beyond}
use Rattle.lsm_cmd_levels.specs.Sums.{files_at, weight, whole}
use Rattle.lsm_cmd_levels.proofs.SpanLaws.{last_cases}

-- ---- the level

-- the weight of a level
abbrev pub heavy : Shape → ℕ → ℕ
heavy s level = weight level (files_at s level)

-- the first that is due of the levels below n, with its weight; where none is, the greatest weight that is not due
abbrev pub IsBest : Shape → ℕ → Option ℕ → ℕ → Type 0
IsBest s n None most = (most ≡ 104857599999) × ((m : ℕ) → m < n → IsDue s m → ⊥)
IsBest s n (Some level) most = (level < n) × (most ≡ heavy s level) × IsDue s level × ((m : ℕ) → m < n → IsDue s m → IsBefore s level m)

pub best_none : (s : Shape) → IsBest s 0 None 104857599999
best_none s = (refl, λ m lt due. omega (arith, lt))

next_cases : (m n : ℕ) → m < n + 1 → (m ≡ n) ⊎ (m < n)
next_cases m n h = eq-or-lt_of_le (omega (arith, h))

over : (s : Shape) (n : ℕ) (best : Option ℕ) (most : ℕ) → IsBest s n best most → 104857599999 ≤ most
over s n None most (e, none) = omega (arith, e)
over s n (Some level) most (lt, e, due, first) = let h = due.1 in omega (arith, e, h)

-- of the levels so far that are due the new one, which is heavier than the best, comes first
before_all : (s : Shape) (n w m : ℕ) (best : Option ℕ) (most : ℕ) → w ≡ heavy s n → most < w → IsBest s n best most → m < n → IsDue s m → heavy s m < heavy s n
before_all s n w m None most is more (e, none) lt due = absurd (none m lt due)
before_all s n w m (Some level) most is more (lt', e, own, first) lt due = elim (first m lt due) [
  | inl less ↦ omega (arith, less, e, more, is)
  | inr (same, le) ↦ omega (arith, same, e, more, is)
]

pub best_more : (s : Shape) (n w : ℕ) (best : Option ℕ) (most : ℕ) → n ≤ 5 → w ≡ heavy s n → most < w → IsBest s n best most → IsBest s (n + 1) (Some n) w
best_more s n w best most few is more b =
    let least = over s n best most b in (
      omega arith,
      is,
      (few, omega (arith, least, more, is)),
      λ m lt due. (elim (next_cases m n lt) as (λ _. IsBefore s n m) [
        | inl same ↦ inr (ap (heavy s) same, omega (arith, same))
        | inr less ↦ inl (before_all s n w m best most is more b less due)
      ]),
    )

pub best_same : (s : Shape) (n w : ℕ) (best : Option ℕ) (most : ℕ) → w ≡ heavy s n → w ≤ most → IsBest s n best most → IsBest s (n + 1) best most
best_same s n w None most is le (e, none) = (
  e,
  λ m lt due. (elim (next_cases m n lt) as (λ _. ⊥) [
    | inl same ↦ (let h = (subst (IsDue s) same due).1 in omega (arith, h, is, le, e))
    | inr less ↦ none m less due
  ]),
)
best_same s n w (Some level) most is le (lt', e, own, first) = (
  omega (arith, lt'),
  e,
  own,
  λ m lt due. (elim (next_cases m n lt) as (λ _. IsBefore s level m) [
    | inl same ↦ (elim (eq-or-lt_of_le {n = heavy s n} {m = heavy s level} (omega (arith, is, le, e))) as (λ _. IsBefore s level m) [
      | inl equal ↦ inr (ap (heavy s) same ∙ equal, omega (arith, lt', same))
      | inr less ↦ inl (subst (λ k. heavy s k < heavy s level) (sym same) less)
    ])
    | inr less ↦ first m less due
  ]),
)

pub best_done : (s : Shape) (n : ℕ) (best : Option ℕ) (most : ℕ) → 6 ≤ n → IsBest s n best most → IsFirstDue s best
best_done s n None most past (e, none) = λ m due. none m (omega (arith, due.0, past)) due
best_done s n (Some level) most past (lt, e, own, first) = (own, λ m due. first m (omega (arith, due.0, past)) due)

-- ---- the file

pub none_beyond : (pointer : Option (List ℕ)) → NoneBeyond pointer []
none_beyond pointer = λ f h. absurd h

pub none_more : (pointer : Option (List ℕ)) (fs : List FileMeta) (i : ℕ) (x : FileMeta) (test : Bool) → i < length fs → x ≡ get_or fs i x → test ≡ is_beyond pointer x → test ≡ false
    → NoneBeyond pointer (take i fs) → NoneBeyond pointer (take (i + 1) fs)
none_more pointer fs i x test lt at is fails none = λ f h. (elim (last_cases fs i x f lt at h) [
  | inl k ↦ none f k
  | inr e ↦ subst (λ (y : FileMeta). is_beyond pointer y ≡ false) e (sym is ∙ fails)
])

-- a level without files is not due
pub due_has : (s : Shape) (level : ℕ) → files_at s level ≡ [] → IsDue s level → ⊥
unfolding weight
due_has s zero e due = (let h = subst (λ (fs : List FileMeta). whole ≤ weight 0 fs) e due.1 in omega (arith, h))
due_has s (suc n) e due = (let h = subst (λ (fs : List FileMeta). whole ≤ weight (suc n) fs) e due.1 in omega (arith, h))

-- a file that is beyond the pointer where none before it is
pub start_here : (pointer : Option (List ℕ)) (fs : List FileMeta) (i : ℕ) (x : FileMeta) (test : Bool) → i < length fs → x ≡ get_or fs i x → test ≡ is_beyond pointer x → test ≡ true
    → NoneBeyond pointer (take i fs) → IsStart pointer fs x
start_here pointer fs i x test lt at is holds none =
    inl (take i fs, drop (i + 1) fs, sym (take-append-drop i fs) ∙ ap (λ (ys : List FileMeta). take i fs ++ ys) (drop_more fs i x lt ∙ ap (λ (y : FileMeta). y ∷ drop (i + 1) fs) (sym at)), none, sym is ∙ holds)

-- so it has a file from which a compaction starts
pub no_start : (s : Shape) (first : Option ℕ) (level : ℕ) (fs : List FileMeta) → IsFirstDue s first → first ≡ Some level → fs ≡ files_at s level → fs ≡ [] → ⊥
no_start s first level fs due is at none = due_has s level (sym at ∙ none) (subst (IsFirstDue s) is due).0
