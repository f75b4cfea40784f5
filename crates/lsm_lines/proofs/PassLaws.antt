-- Lines that are passed over.
use Rattle.std.proofs.Common.{◌≡◌, ℕ, ◌+◌, List, [], ◌∷◌, ◌++◌, Option, refl, ap, ◌∙◌, subst, length-append, inl, inr}
use Rattle.std.specs.Prelude.{◌⊎◌}
use Rattle.lsm_lines.specs.Passing.{PassesLines, TakesCount}
use Rattle.lsm_lines.specs.Reading.{IsNext, Lined, TakesLine}
use Rattle.lsm_lines.specs.declared.line_reader.NextLine.{NextLine}
use Rattle.lsm_lines.specs.declared.line_reader.NextLine.TheVariants.{Line, TooLong, NoMemory, End}
use Rattle.lsm_lines.proofs.GatherLaws.{takes_more, takes_none}

pub count_none : (old : Option (List ℕ)) → TakesCount 0 old old
count_none old = ([], refl, takes_none old)

count_more : (n : ℕ) (line : List ℕ) (old mid new : Option (List ℕ)) → TakesCount n old mid → TakesLine line mid new → TakesCount (n + 1) old new
count_more n line old mid new t one =
    (t.0 ++ line ∷ [], length-append t.0 (line ∷ []) ∙ ap (λ m. m + 1) t.1, takes_more t.0 line old mid new t.2 one)

-- a line more, whatever it is
pub count_next : (n : ℕ) (old : Option (List ℕ)) (mid new : Lined) (next : NextLine) → TakesCount n old mid.left → IsNext mid new next
    → (next ≡ Line) ⊎ ((next ≡ TooLong) ⊎ (next ≡ NoMemory)) → TakesCount (n + 1) old new.left
count_next n old mid new Line t i one = count_more n new.line old mid.left new.left t i.1
count_next n old mid new TooLong t i one = count_more n i.0 old mid.left new.left t i.2
count_next n old mid new NoMemory t i one = count_more n i.0 old mid.left new.left t i.1
count_next n old mid new End t i (inl one) = absurd cc
count_next n old mid new End t i (inr (inl one)) = absurd cc
count_next n old mid new End t i (inr (inr one)) = absurd cc

-- all, which are fewer
pub count_end : (n count : ℕ) (old : Option (List ℕ)) (mid new : Lined) (next : NextLine) → TakesCount n old mid.left → IsNext mid new next → next ≡ End → PassesLines count old new.left
count_end n count old mid new next t i is =
    let ended : IsNext mid new End = subst (λ (l : NextLine). IsNext mid new l) is i in
    inr (n, mid.left, t, ended.0, ended.1)
