use Rattle.std.proofs.Common.{◌≤◌, ◌^◌, length, ap, sym, subst, arith, List, ℕ}
use Rattle.std.proofs.lemmas.List.{take_all}
use Rattle.lsm_codec.specs.Lists.{Has}
use Rattle.lsm_table.specs.Registry.{Table}
use Rattle.lsm_journal.proofs.KeyLengths.{whole_keys}
use Rattle.lsm_journal.proofs.Loops.{small_more}
use Rattle.lsm_journal.proofs.keys.added_keys_fit.Goals as goal

pub returns : goal.returns
returns g c = λ n t h whole.
    whole_keys t whole (c.loop-one.invariant n t (subst (λ (xs : List (ℕ × Table)). Has xs (n, t)) (sym (take_all c.loop-one.one-index c.args.added.now c.loop-one-test.false)) h))

pub loop-one-preserved : goal.loop-one-preserved
loop-one-preserved g c =
    let same = ap length c.record.ensures.image in
    let size = c.size-size.ensures.size in
    let limit = c.size-size.ensures.limit in
    let small : length c.one-item.result.1.image ≤ 2 ^ 30 = omega arith in
    small_more c.args.added.now c.loop-one.one-index c.one-item.result c.loop-one-test.true c.one-item.is small c.loop-one.invariant
