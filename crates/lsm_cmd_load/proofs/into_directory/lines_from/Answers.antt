use Rattle.lsm_cmd_load.proofs.LoadedLaws.{to_come}
use Rattle.lsm_cmd_load.proofs.into_directory.lines_from.Goals as goal

pub returns-in-Ok-clause-to_come : goal.returns-in-Ok-clause-to_come
returns-in-Ok-clause-to_come g c =
    to_come c.args.options _ _ _ _ _ c.form_of-form.ensures c.in_ok-lines.ensures
    c.saturating_sub.ensures c.in-Ok.ensures.passed c.pass.ensures.rest
