use Rattle.std.proofs.Common.{ℕ, List, ◌-◌, ◌^◌, subst}
use Rattle.lsm_text.specs.Numbers.{IsNumberWord}
use Rattle.lsm_cmd_shell.proofs.ScanWords.{last_word, no_number}
use Rattle.lsm_cmd_shell.proofs.WordTexts.{texts}
use Rattle.lsm_cmd_shell.proofs.scan_line.limited_in.Goals as goal

pub returns-in_default-clause-none : goal.returns-in_default-clause-none
returns-in_default-clause-none c =
    let none = rw c.in_default.is at c.number_in.ensures.none in
    no_number c.args.form (texts c.args.rest.now) c.requires.limit (λ n h. none n (subst (λ (w : List ℕ). IsNumberWord (2 ^ 64 - 1) w n) (last_word c.args.rest.now c.requires.limit) h))
