use Rattle.std.proofs.Common.{◌≡◌, codes, get_or, rules}
use Rattle.lsm_cmd_shell.proofs.ScanWords.{later_words, scan_none, scan_some}
use Rattle.lsm_cmd_shell.proofs.WordTexts.{blank}
use Rattle.lsm_cmd_shell.proofs.scan_line.scan_in.Goals as goal

pub returns-in-len1-up-clause-some : goal.returns-in-len1-up-clause-some
returns-in-len1-up-clause-some c =
    let words = c.args.words.now in
    let name : (get_or words 0 blank).now ≡ codes "scan" = search rules in
    scan_some c.args.form words _ c.ends_in.result c.in-len1-up.len_at_least name (later_words words) c.ends_in.ensures.some

pub returns-in-len1-up-clause-none : goal.returns-in-len1-up-clause-none
returns-in-len1-up-clause-none c =
    let words = c.args.words.now in
    scan_none c.args.form words _ c.ends_in.result c.in-len1-up.len_at_least (later_words words) c.ends_in.ensures.none
