use Rattle.std.proofs.Common.{◌≤◌, ◌+◌, ◌*◌, ◌-◌, ◌^◌, get_or, arith, rules}
use Rattle.lsm_text.proofs.NumberLaws.{if_none, too_large}
use Rattle.lsm_text.proofs.number.+digits.Goals as goal

pub returns-in_err-checked_mul-in-len1-up-clause-none : goal.returns-in_err-checked_mul-in-len1-up-clause-none
returns-in_err-checked_mul-in-len1-up-clause-none t c =
    let large : 2 ^ 64 ≤ c.args.n * 10 = search rules in
    if_none _ _ (too_large c.args.n c.args.word.now c.in-len1-up.len_at_least (omega (arith, large)))

pub returns-in_err-n-in-len1-up-clause-none : goal.returns-in_err-n-in-len1-up-clause-none
returns-in_err-n-in-len1-up-clause-none t c =
    let large : 2 ^ 64 ≤ c.args.n * 10 + (get_or c.args.word.now 0 0 - 48) = search rules in
    if_none _ _ (too_large c.args.n c.args.word.now c.in-len1-up.len_at_least large)
