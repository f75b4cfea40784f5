use Rattle.std.proofs.Common.{◌≢◌, codes, rules}
use Rattle.lsm_cmd_shell.proofs.MistakeLaws.{no_from}
use Rattle.lsm_cmd_shell.proofs.wrong_word.wrong_from.Goals as goal

pub returns-in-None-2-clause-none : goal.returns-in-None-2-clause-none
returns-in-None-2-clause-none c =
    let other : c.args.word.now ≢ codes "limit" = search rules in
    no_from c.args.form c.args.word.now (rw c.in-None-2.is at c.wrong_bytes.ensures.none) other
