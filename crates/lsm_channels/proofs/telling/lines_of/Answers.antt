use Rattle.lsm_channels.proofs.TellingLaws.{are_lines}
use Rattle.lsm_channels.proofs.telling.lines_of.Goals as goal

pub returns : goal.returns
returns c = are_lines c.args.fault.now _ _ _ _ _ c.table_file.ensures c.in_ok-file.ensures
    c.in_ok-meaning.ensures c.in_ok-answer.ensures c.in_ok-lines.ensures
