-- Which file goes before a run.
use Rattle.std.proofs.Common.{◌≡◌, ℕ, Bool, true, false, not, List, IsTrue, ◌↔◌, refl, sym, subst}
use Rattle.std.specs.Prelude.{Option, Some, None, MatchOption}
use Rattle.lsm_table.specs.Registry.{Table}
use Rattle.lsm_version.specs.Versions.{Levels, level_in}
use Rattle.lsm_picker.specs.Joining.{Falls, Goes, GoesFirst, LeavesOne}
use Rattle.lsm_picker.specs.Stairs.{IsStair, foremost}

-- a level goes one way
same_way : (ts : List Table) (r q : Bool) → Goes ts r → Goes ts q → r ≡ q
same_way ts true true a b = refl
same_way ts true false a b = absurd (a b)
same_way ts false true a b = absurd (b a)
same_way ts false false a b = refl

pub goes_so : (ts : List Table) (b : Bool) → (IsTrue b ↔ Falls ts) → Goes ts (not b)
goes_so ts true both = both.0 refl
goes_so ts false both = λ falls. absurd (cc (both.1 falls))

pub first_left : (v : Levels) (level at : ℕ) (r : Bool) (o : Option Table)
    → Goes (level_in v.tables level) r → LeavesOne (level_in v.tables level) r at
    → IsStair v r level → o ≡ foremost (not r) (level_in v.tables level)
    → MatchOption o ((t : Table) → GoesFirst v level at t → ⊥) (λ t. GoesFirst v level at t)
first_left v level at r None goes leaves stair is = λ t first.
    let same = same_way (level_in v.tables level) first.rising r first.goes goes in
    let here = subst (λ (b : Bool). foremost (not b) (level_in v.tables level) ≡ Some t) same
    first.innermost in
    absurd (cc (is, here))
first_left v level at r (Some t) goes leaves stair is = record {
  rising = r;
  goes = goes;
  leaves = leaves;
  innermost = sym is;
  stair = stair;
}

pub none_left : (v : Levels) (level at : ℕ) (r : Bool) → Goes (level_in v.tables level) r
    → (LeavesOne (level_in v.tables level) r at → IsStair v r level → ⊥) → (t : Table)
    → GoesFirst v level at t → ⊥
none_left v level at r goes none t first =
    let same = same_way (level_in v.tables level) first.rising r first.goes goes in
    none (subst (λ (b : Bool). LeavesOne (level_in v.tables level) b at) same first.leaves)
    (subst (λ (b : Bool). IsStair v b level) same first.stair)
