use Rattle.std.proofs.Common.{◌≡◌, codes, get_or, rules}
use Rattle.lsm_cmd_shell.proofs.ScanWords.{begins_limit}
use Rattle.lsm_cmd_shell.proofs.WordTexts.{blank}
use Rattle.lsm_cmd_shell.proofs.scan_line.bounds_in.Goals as goal

pub returns-then-eq-clause-none : goal.returns-then-eq-clause-none
returns-then-eq-clause-none c =
    let ws = c.args.ends.now in
    let name : (get_or ws 0 blank).now ≡ codes "limit" = search rules in
    λ b h. begins_limit c.args.form ws b c.in-len2.len_at_least c.in-len2.len_below name h
