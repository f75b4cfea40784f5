use Rattle.std.proofs.Common.{◌≡◌, ◌≢◌, get_or, rules}
use Rattle.lsm_script.proofs.CommandLaws.{numbered_some, other_name}
use Rattle.lsm_script.proofs.WordLaws.{blank}
use Rattle.lsm_script.proofs.named.number_of.Goals as goal

pub returns-in-len2-clause-some : goal.returns-in-len2-clause-some
returns-in-len2-clause-some c =
    let name : (get_or c.args.words.now 0 blank).now ≡ c.args.name.now = search rules in
    numbered_some c.args.words.now c.args.name.now c.args.most c.number_in.result c.in-len2.len_at_least c.in-len2.len_below name c.number_in.ensures.some

pub returns-in_default-2-clause-none : goal.returns-in_default-2-clause-none
returns-in_default-2-clause-none c =
    let other : (get_or c.args.words.now 0 blank).now ≢ c.args.name.now = search rules in
    λ n h. other_name c.args.words.now c.args.name.now c.args.most n c.in-len2.len_at_least c.in-len2.len_below other h
