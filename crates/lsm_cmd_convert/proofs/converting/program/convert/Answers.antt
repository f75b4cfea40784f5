use Rattle.lsm_cmd_convert.proofs.StatusLaws.{is_unconverted}
use Rattle.lsm_cmd_convert.proofs.converting.program.convert.Goals as goal

pub returns-clause-refused : goal.returns-clause-refused
returns-clause-refused g c =
    is_unconverted c.perform-done.result c.status_of.result _ _ _ _ c.status_of.ensures.ok c.status_of.ensures.err c.perform-done.ensures.explained c.perform-done.ensures.kept
    c.perform-done.ensures.begun
