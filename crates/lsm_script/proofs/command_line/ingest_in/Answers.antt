use Rattle.std.proofs.Common.{◌≡◌, codes, get_or, rules}
use Rattle.lsm_script.proofs.CommandLaws.{ingest_some, later_words}
use Rattle.lsm_script.proofs.WordLaws.{blank}
use Rattle.lsm_script.proofs.command_line.ingest_in.Goals as goal

pub returns-in-Some-clause-some : goal.returns-in-Some-clause-some
returns-in-Some-clause-some c =
    let words = c.args.words.now in
    let name : (get_or words 0 blank).now ≡ codes "ingest" = search rules in
    ingest_some c.args.form words _ c.in-Some.batch c.in-len1-up.len_at_least name (rw c.in-Some.is at c.in_ok-batch-in-len1-up.ensures.some) (later_words words)
