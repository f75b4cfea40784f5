use Rattle.std.proofs.Common.{◌≡◌, ◌≤◌, length, None, sym, ◌∙◌, rules}
use Rattle.lsm_store.proofs.EndsLaws.{all_faultless, first_fault, more_faultless}
use Rattle.lsm_store.proofs.ends.judge_ends.Goals as goal

pub returns-in-Some-clause-first : goal.returns-in-Some-clause-first
returns-in-Some-clause-first c =
    first_fault c.args.ends.now c.loop-end.end-index _ c.in-Some.fault c.loop-end-test.true c.loop-end.invariant (sym c.fault_of.ensures ∙ c.in-Some.is)

pub loop-end-preserved : goal.loop-end-preserved
loop-end-preserved c =
    let none : c.fault_of.result ≡ None = search rules in
    more_faultless c.args.ends.now c.loop-end.end-index _ c.loop-end-test.true c.loop-end.invariant (sym c.fault_of.ensures ∙ none)

pub returns-clause-faultless : goal.returns-clause-faultless
returns-clause-faultless c =
    let end : length c.args.ends.now ≤ c.loop-end.end-index = search rules in
    all_faultless c.args.ends.now c.loop-end.end-index end c.loop-end.invariant
