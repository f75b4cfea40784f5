use Rattle.std.proofs.Common.{◌≡◌, rules}
use Rattle.lsm_script.proofs.CommandLaws.{no_numbered}
use Rattle.lsm_script.proofs.WordLaws.{texts}
use Rattle.lsm_script.proofs.named.numbered_in.Goals as goal

pub returns-clause-none : goal.returns-clause-none
returns-clause-none c =
    let most : c.from.result ≡ 4294967295 = search rules in
    λ form. no_numbered form (texts c.args.words.now) (search rules) (search rules) (search rules) (search rules) (rw most at c.in_default-number_of-4.ensures.none)
