use Rattle.std.proofs.Common.{◌≡◌, ◌≢◌, ◌-◌, ◌∙◌, true, false, codes, get_or, length, refl, rules, sym}
use Rattle.std.specs.Str.{bytes_eq}
use Rattle.lsm_cmd_shell.proofs.MistakeLaws.{before_last, too_few}
use Rattle.lsm_cmd_shell.proofs.ScanWords.{limit_at, no_limit_at}
use Rattle.lsm_cmd_shell.proofs.WordTexts.{blank}
use Rattle.lsm_cmd_shell.proofs.scan_line.has_limit.Goals as goal

pub returns-then-count-lt2-clause-same : goal.returns-then-count-lt2-clause-same
returns-then-count-lt2-clause-same c = too_few c.args.rest.now c.if-count-lt2.true

pub returns-then-eq-clause-has : goal.returns-then-eq-clause-has
returns-then-eq-clause-has c =
    let ws = c.args.rest.now in
    let name : (get_or ws (length ws - 2) blank).now ≡ codes "limit" = search rules in
    (λ h. limit_at ws c.if-count-lt2.false name, λ h. refl)

pub returns-then-eq-clause-same : goal.returns-then-eq-clause-same
returns-then-eq-clause-same c =
    let ws = c.args.rest.now in
    let here : bytes_eq (get_or ws (length ws - 2) blank).now (codes "limit") ≡ true = search rules in
    sym (before_last ws c.if-count-lt2.false ∙ here)

pub returns-clause-has : goal.returns-clause-has
returns-clause-has c =
    let ws = c.args.rest.now in
    let other : (get_or ws (length ws - 2) blank).now ≢ codes "limit" = search rules in
    (λ never. absurd (cc), λ h. absurd (no_limit_at ws c.if-count-lt2.false other h))

pub returns-clause-same : goal.returns-clause-same
returns-clause-same c =
    let ws = c.args.rest.now in
    let other : bytes_eq (get_or ws (length ws - 2) blank).now (codes "limit") ≡ false = search rules in
    sym (before_last ws c.if-count-lt2.false ∙ other)
