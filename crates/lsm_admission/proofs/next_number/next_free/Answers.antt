use Rattle.std.proofs.Common.{◌≡◌, ◌-◌, ◌^◌, [], ◌∷◌, ◌++◌, get_or, take, refl, sym, subst, arith}
use Rattle.std.proofs.lemmas.List.{take_all, take_more}
use Rattle.lsm_codec.specs.Lists.{Has}
use Rattle.lsm_journal.specs.Finding.{IsLeastFree}
use Rattle.lsm_admission.proofs.FreeNumbers.{at_has, free_more, free_none}
use Rattle.lsm_admission.proofs.next_number.next_free.Goals as goal

pub loop-number-init : goal.loop-number-init
loop-number-init c = free_none c.args.from

pub loop-number-preserved : goal.loop-number-preserved
loop-number-preserved c =
    subst (λ xs. IsLeastFree c.args.from xs c.max-next.result)
    (sym (take_more c.args.taken.now c.loop-number.number-index 0 c.loop-number-test.true))
    (subst (λ n. IsLeastFree c.args.from (take c.loop-number.number-index c.args.taken.now ++
    get_or c.args.taken.now c.loop-number.number-index 0 ∷ []) n) (sym c.max-next.ensures)
    (free_more c.args.from c.loop-number.next (get_or c.args.taken.now c.loop-number.number-index
    0) (take c.loop-number.number-index c.args.taken.now) c.loop-number.invariant))

pub returns-clause-ok : goal.returns-clause-ok
returns-clause-ok c = subst (λ xs. IsLeastFree c.args.from xs c.loop-number.next)
    (take_all c.loop-number.number-index c.args.taken.now c.loop-number-test.false)
    c.loop-number.invariant

pub returns-then-number-clause-err : goal.returns-then-number-clause-err
returns-then-number-clause-err c =
    let is : get_or c.args.taken.now c.loop-number.number-index 0 ≡ 2 ^ 64 - 1 =
    (let t = c.if-number.true in omega arith) in (
      refl,
      subst (λ n. Has c.args.taken.now n) is
          (at_has c.args.taken.now c.loop-number.number-index c.loop-number-test.true),
    )
