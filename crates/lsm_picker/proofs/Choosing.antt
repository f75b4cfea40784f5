-- The choice goes level by level, and in a level one side of the pointer after the other.
use Rattle.std.proofs.Common.{◌≡◌, ℕ, ◌+◌, ◌<◌, ◌≤◌, Bool, true, false, List, [], ◌∷◌, length, get_or, refl, sym, ◌∙◌, ap, subst, inl, inr, arith}
use Rattle.std.specs.Prelude.{◌⊎◌, Option, Some, None, IfSome, MatchOption, is_some, slice_get}
use Rattle.std.proofs.lemmas.Bool.{cases_lt}
use Rattle.std.proofs.lemmas.Option.{get_or_from_slice_get, slice_get_read, slice_get_within}
use Rattle.lsm_codec.specs.Lists.{Has}
use Rattle.lsm_table.specs.Registry.{Table}
use Rattle.lsm_version.specs.Versions.{Levels, file_of, level_in}
use Rattle.lsm_picker.specs.Choice.{AllBlocked, AllBlockedBeside, AreEqual, Candidate, HasNoChoice, IsBlocked, IsBlockedAt, IsCandidate, IsChoice, IsDue, IsFirstClear, IsFree, IsGreaterScore, IsLevelBefore, IsLevelChoice, IsOnSide, IsTableBefore, IsTriedBefore, is_beyond, pointer_at}
use Rattle.lsm_picker.specs.Reservations.{IsClear, Reserved, is_taken}
use Rattle.lsm_picker.specs.Scores.{score, weight}
use Rattle.lsm_picker.specs.TablePlans.{IsPlanFrom, TablePlan}
use Rattle.lsm_picker.proofs.Scoring.{equal_weight, greater_weight}

-- ---- one side of a level

-- the candidates on that side up to an index are blocked
abbrev pub AllTried : Levels → List Reserved → ℕ → Bool → ℕ → Type 0
AllTried v rs level beyond i = (c : Candidate) → IsOnSide v rs level beyond c → c.index < i → IsBlocked v rs c

at_table : (v : Levels) (level : ℕ) (c : Candidate) (t : Table) (p : TablePlan) → c.level ≡ level → c.table ≡ t → IsPlanFrom v (Has (file_of level t ∷ [])) p → IsPlanFrom v (Has (file_of c.level c.table ∷ [])) p
at_table v level c t p l same q =
    subst (λ (u : Table). IsPlanFrom v (Has (file_of c.level u ∷ [])) p) (sym same) (subst (λ (n : ℕ). IsPlanFrom v (Has (file_of n t ∷ [])) p) (sym l) q)

blocked_at : (v : Levels) (rs : List Reserved) (level : ℕ) (c : Candidate) (t : Table) → c.level ≡ level → c.table ≡ t → IsBlockedAt v rs level t → IsBlocked v rs c
blocked_at v rs level c t l same b = (b.0, record { level = b.1 ∙ sym l; planned = at_table v level c t b.0 l same b.2 }, b.3)

-- the table at the candidate's index
table_is : (v : Levels) (rs : List Reserved) (level i : ℕ) (c : Candidate) (x : Table) → IsFree v rs c → c.level ≡ level → c.index ≡ i → x ≡ get_or (level_in v.tables level) i x → c.table ≡ x
table_is v rs level i c x f l at is =
    let here : slice_get (level_in v.tables level) i ≡ Some c.table = subst (λ (j : ℕ). slice_get (level_in v.tables level) j ≡ Some c.table) at (subst (λ (n : ℕ). slice_get (level_in v.tables n) c.index ≡ Some c.table) l f.stands) in
    sym (get_or_from_slice_get (level_in v.tables level) i c.table x here) ∙ sym is

-- one more that is blocked
pub tried_more : (v : Levels) (rs : List Reserved) (level : ℕ) (beyond : Bool) (i : ℕ) (x : Table) → x ≡ get_or (level_in v.tables level) i x → IsBlockedAt v rs level x
    → AllTried v rs level beyond i → AllTried v rs level beyond (i + 1)
tried_more v rs level beyond i x is b before c s lt = elim (cases_lt c.index i) [
  | inl less ↦ before c s less
  | inr more ↦ (let at : c.index ≡ i = omega arith in blocked_at v rs level c x s.level_is (table_is v rs level i c x s.free s.level_is at is) b)
]

-- one more whose table is not on that side
pub tried_skip : (v : Levels) (rs : List Reserved) (level : ℕ) (beyond : Bool) (i : ℕ) (x : Table) → x ≡ get_or (level_in v.tables level) i x
    → ((is_taken rs x ≡ false) × (is_beyond (pointer_at v level) x ≡ beyond) → ⊥) → AllTried v rs level beyond i → AllTried v rs level beyond (i + 1)
tried_skip v rs level beyond i x is other before c s lt = elim (cases_lt c.index i) [
  | inl less ↦ before c s less
  | inr more ↦ (let at : c.index ≡ i = omega arith in let same = table_is v rs level i c x s.free s.level_is at is in
      absurd (other (subst (λ (u : Table). is_taken rs u ≡ false) same s.free.free, subst (λ (u : Table). is_beyond (pointer_at v level) u ≡ beyond) same s.side)))
]

pub tried_all : (v : Levels) (rs : List Reserved) (level : ℕ) (beyond : Bool) (i : ℕ) → length (level_in v.tables level) ≤ i → AllTried v rs level beyond i → AllBlockedBeside v rs level beyond
tried_all v rs level beyond i past before c s =
    let here = slice_get_within (level_in v.tables level) c.index c.table (subst (λ (n : ℕ). slice_get (level_in v.tables n) c.index ≡ Some c.table) s.level_is s.free.stands) in
    before c s (omega arith)

pub first_clear_is : (v : Levels) (rs : List Reserved) (level : ℕ) (beyond : Bool) (i : ℕ) (x : Table) (p : TablePlan) → i < length (level_in v.tables level) → x ≡ get_or (level_in v.tables level) i x
    → (is_taken rs x ≡ false) × (is_beyond (pointer_at v level) x ≡ beyond) → p.level ≡ level → IsPlanFrom v (Has (file_of level x ∷ [])) p → IsClear p rs
    → AllTried v rs level beyond i → IsFirstClear v rs level beyond p
first_clear_is v rs level beyond i x p lt is on at q clear before = record {
  start = record { level = level; index = i; table = x };
  on_side = record {
    level_is = refl;
    free = record { stands = slice_get_read (level_in v.tables level) (length (level_in v.tables level)) i x refl lt is; free = on.0 };
    side = on.1;
  };
  planned = record { level = at; planned = q };
  clear = clear;
  first = before;
}

-- ---- both sides

side_of : (v : Levels) (rs : List Reserved) (level : ℕ) (c : Candidate) → c.level ≡ level → IsFree v rs c → IsOnSide v rs level true c ⊎ IsOnSide v rs level false c
side_of v rs level c l f = go (is_beyond (pointer_at v level) c.table) refl
  where
    go : (b : Bool) → is_beyond (pointer_at v level) c.table ≡ b → IsOnSide v rs level true c ⊎ IsOnSide v rs level false c
    go true e = inl record { level_is = l; free = f; side = e }
    go false e = inr record { level_is = l; free = f; side = e }

beyond_at : (v : Levels) (level : ℕ) (c : Candidate) (b : Bool) → c.level ≡ level → is_beyond (pointer_at v level) c.table ≡ b → is_beyond (pointer_at v c.level) c.table ≡ b
beyond_at v level c b l e = subst (λ (n : ℕ). is_beyond (pointer_at v n) c.table ≡ b) (sym l) e

pub both_blocked : (v : Levels) (rs : List Reserved) (level : ℕ) → AllBlockedBeside v rs level true → AllBlockedBeside v rs level false → AllBlocked v rs level
both_blocked v rs level a b c l f = elim (side_of v rs level c l f) [ inl s ↦ a c s | inr s ↦ b c s ]

pub other_chosen : (v : Levels) (rs : List Reserved) (level : ℕ) (p : TablePlan) → AllBlockedBeside v rs level true → IsFirstClear v rs level false p → IsLevelChoice v rs level p
other_chosen v rs level p a k = record {
  start = k.start;
  level_is = k.on_side.level_is;
  free = k.on_side.free;
  planned = k.planned;
  clear = k.clear;
  first = first;
}
  where
    own : is_beyond (pointer_at v k.start.level) k.start.table ≡ false
    own = beyond_at v level k.start false k.on_side.level_is k.on_side.side

    first : (c : Candidate) → c.level ≡ level → IsFree v rs c → IsTableBefore v c k.start → IsBlocked v rs c
    first c l f b = elim (side_of v rs level c l f) [
      | inl s ↦ a c s
      | inr s ↦ elim b [
        | inl ahead ↦ (let other = beyond_at v level c false l s.side in absurd (cc (other, ahead.0)))
        | inr same ↦ k.first c s same.1
      ]
    ]

-- ---- the levels one after another

-- a level that is tried before one with that weight
abbrev pub IsHeavier : Levels → List Reserved → ℕ → ℕ → ℕ → Type 0
IsHeavier v rs l most level = (most < weight v rs l) ⊎ ((weight v rs l ≡ most) × (l < level))

-- the best plan of the levels below this one
abbrev pub IsBest : Levels → List Reserved → ℕ → Option TablePlan → ℕ → Type 0
IsBest v rs end None most = (most ≡ 0) × ((l : ℕ) → l < end → IsDue (score v rs l) → AllBlocked v rs l)
IsBest v rs end (Some p) most = (p.level < end) × IsDue (score v rs p.level) × (weight v rs p.level ≡ most) × IsLevelChoice v rs p.level p
    × ((l : ℕ) → l < end → IsDue (score v rs l) → IsHeavier v rs l most p.level → AllBlocked v rs l)

below_or_at : (l end : ℕ) → l < end + 1 → (l < end) ⊎ (l ≡ end)
below_or_at l end lt = elim (cases_lt l end) [ inl less ↦ inl less | inr more ↦ inr (omega arith) ]

-- the level is not due, or its weight is no greater
pub best_skip : (v : Levels) (rs : List Reserved) (end : ℕ) (best : Option TablePlan) (most : ℕ) → (IsDue (score v rs end) → weight v rs end ≤ most) → (IsDue (score v rs end) → 0 < weight v rs end) → IsBest v rs end best most
    → IsBest v rs (end + 1) best most
best_skip v rs end None most light heavy b = (
  b.0,
  λ l lt due. elim (below_or_at l end lt) [
    | inl less ↦ b.1 l less due
    | inr same ↦ (let d = subst (λ (n : ℕ). IsDue (score v rs n)) same due in let h = heavy d in let k = light d in let z = b.0 in absurd (omega arith))
  ],
)
best_skip v rs end (Some p) most light heavy b = (
  (let lt = b.0 in omega arith),
  b.1,
  b.2,
  b.3,
  λ l lt due more. elim (below_or_at l end lt) [
    | inl less ↦ b.4 l less due more
    | inr same ↦ (let d = subst (λ (n : ℕ). IsDue (score v rs n)) same due in let k = light d in let w = ap (weight v rs) same in let below = b.0 in
        absurd (elim more [ inl over ↦ omega arith | inr tie ↦ (let lo = tie.1 in omega arith) ]))
  ],
)

-- all candidates of the level are blocked
pub best_blocked : (v : Levels) (rs : List Reserved) (end : ℕ) (best : Option TablePlan) (most : ℕ) → AllBlocked v rs end → IsBest v rs end best most → IsBest v rs (end + 1) best most
best_blocked v rs end None most a b = (b.0, λ l lt due. elim (below_or_at l end lt) [ inl less ↦ b.1 l less due | inr same ↦ subst (AllBlocked v rs) (sym same) a ])
best_blocked v rs end (Some p) most a b = (
  (let lt = b.0 in omega arith),
  b.1,
  b.2,
  b.3,
  λ l lt due more. elim (below_or_at l end lt) [ inl less ↦ b.4 l less due more | inr same ↦ subst (AllBlocked v rs) (sym same) a ],
)

-- the level's choice is the best one from now on, as its weight is greater
pub best_taken : (v : Levels) (rs : List Reserved) (end : ℕ) (best : Option TablePlan) (most : ℕ) (p : TablePlan) → IsDue (score v rs end) → most < weight v rs end → p.level ≡ end → IsLevelChoice v rs end p
    → IsBest v rs end best most → IsBest v rs (end + 1) (Some p) (weight v rs end)
best_taken v rs end best most p due over at k b = (
  omega arith,
  subst (λ (n : ℕ). IsDue (score v rs n)) (sym at) due,
  ap (weight v rs) at,
  subst (λ (n : ℕ). IsLevelChoice v rs n p) (sym at) k,
  λ l lt d more. elim (below_or_at l end lt) [
    | inl less ↦ earlier best b l less d more
    | inr same ↦ (let w = ap (weight v rs) same in absurd (elim more [ inl h ↦ omega arith | inr tie ↦ (let lo = tie.1 in omega arith) ]))
  ],
)
  where
    earlier : (o : Option TablePlan) → IsBest v rs end o most → (l : ℕ) → l < end → IsDue (score v rs l) → IsHeavier v rs l (weight v rs end) p.level → AllBlocked v rs l
    earlier None c l less d more = c.1 l less d
    earlier (Some q) c l less d more = c.4 l less d (inl (elim more [ inl h ↦ omega arith | inr tie ↦ (let same = tie.0 in omega arith) ]))

pub best_none : (v : Levels) (rs : List Reserved) (end most : ℕ) → 6 ≤ end → IsBest v rs end None most → HasNoChoice v rs
best_none v rs end most six b c k = (let low = k.level in b.1 c.level (omega arith) k.due c refl k.free)

pub best_some : (v : Levels) (rs : List Reserved) (end most : ℕ) (p : TablePlan) → end ≤ 6 → 6 ≤ end → IsBest v rs end (Some p) most → IsChoice v rs p
best_some v rs end most p few six b = record {
  start = k.start;
  candidate = record { level = (let below = b.0 in let at = k.level_is in omega arith); due = subst (λ (n : ℕ). IsDue (score v rs n)) (sym k.level_is) b.1; free = k.free };
  planned = k.planned;
  clear = k.clear;
  first = first;
}
  where
    k : IsLevelChoice v rs p.level p
    k = b.3

    heavier : (l : ℕ) → l ≤ 5 → IsLevelBefore v rs l k.start.level → IsHeavier v rs l most p.level
    heavier l low (inl more) =
        let more' : IsGreaterScore (score v rs l) (score v rs p.level) = subst (λ (n : ℕ). IsGreaterScore (score v rs l) (score v rs n)) k.level_is more in
        let w = greater_weight v rs l p.level low (let below = b.0 in omega arith) more' in
        let m = b.2 in
        inl (omega arith)
    heavier l low (inr tie) =
        let tie' : AreEqual (score v rs l) (score v rs p.level) = subst (λ (n : ℕ). AreEqual (score v rs l) (score v rs n)) k.level_is tie.0 in
        let w = equal_weight v rs l p.level low (let below = b.0 in omega arith) tie' in
        inr (w ∙ b.2, subst (λ (n : ℕ). l < n) k.level_is tie.1)

    first : (c : Candidate) → IsCandidate v rs c → IsTriedBefore v rs c k.start → IsBlocked v rs c
    first c cand (inl before) = (let low = cand.level in b.4 c.level (omega arith) cand.due (heavier c.level low before) c refl cand.free)
    first c cand (inr here) = k.first c (here.0 ∙ k.level_is) cand.free here.1

-- ---- what the code gives

-- a plan that is not there
pub none_given : (o : Option TablePlan) (P : Type 0) (Q : TablePlan → Type 0) → is_some o ≡ false → MatchOption o P Q → P
none_given None P Q e m = m
none_given (Some p) P Q e m = absurd (cc e)

pub last_side : (v : Levels) (rs : List Reserved) (level : ℕ) (o : Option TablePlan) → AllBlockedBeside v rs level true → MatchOption o (AllBlockedBeside v rs level false) (λ p. IsFirstClear v rs level false p)
    → MatchOption o (AllBlocked v rs level) (λ p. IsLevelChoice v rs level p)
last_side v rs level None a m = both_blocked v rs level a m
last_side v rs level (Some p) a m = other_chosen v rs level p a m

pub best_given : (v : Levels) (rs : List Reserved) (end : ℕ) (best : Option TablePlan) (most : ℕ) (o : Option TablePlan) → is_some o ≡ true → IfSome o (λ p. p.level ≡ end)
    → MatchOption o (AllBlocked v rs end) (λ p. IsLevelChoice v rs end p) → IsDue (score v rs end) → most < weight v rs end → IsBest v rs end best most → IsBest v rs (end + 1) o (weight v rs end)
best_given v rs end best most None e at m due over b = absurd (cc e)
best_given v rs end best most (Some p) e at m due over b = best_taken v rs end best most p due over at m b

pub best_done : (v : Levels) (rs : List Reserved) (end most : ℕ) (o : Option TablePlan) → end ≤ 6 → 6 ≤ end → IsBest v rs end o most → MatchOption o (HasNoChoice v rs) (λ p. IsChoice v rs p)
best_done v rs end most None few six b = best_none v rs end most six b
best_done v rs end most (Some p) few six b = best_some v rs end most p few six b
