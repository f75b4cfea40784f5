use Rattle.std.proofs.Common.{sym, ◌∙◌, ap, subst}
use Rattle.lsm_version.specs.FileNumbers.{AreDistinct, IsLeastTwice, first_twice}
use Rattle.lsm_admission.proofs.Numbers.{distinct_numbers, double_number}
use Rattle.lsm_admission.proofs.file_numbers.judge_numbers.Goals as goal

pub returns-in-None-clause-ok : goal.returns-in-None-clause-ok
returns-in-None-clause-ok c =
    subst AreDistinct c.in_ok-numbers.ensures
    (distinct_numbers c.in_ok-numbers.numbers.items c.sort.new.self.items
    c.sort.ensures.permutation c.in_ok-sort.ensures.sorted
    (ap first_twice (sym c.deref.ensures.value) ∙ sym c.first_twice.ensures ∙ c.in-None.is))

pub returns-clause-refused : goal.returns-clause-refused
returns-clause-refused c =
    subst (λ ns. IsLeastTwice ns c.in-Some.number) c.in_ok-numbers.ensures
    (double_number c.in_ok-numbers.numbers.items c.sort.new.self.items c.in-Some.number
    c.sort.ensures.permutation c.in_ok-sort.ensures.sorted
    (ap first_twice (sym c.deref.ensures.value) ∙ sym c.first_twice.ensures ∙ c.in-Some.is))
