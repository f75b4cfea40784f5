use Rattle.std.specs.Prelude.{codes}
use Rattle.lsm_directory.proofs.TellingLaws.{file_joined}
use Rattle.lsm_directory.proofs.telling.second_lines.write_file_line.Goals as goal

pub returns : goal.returns
returns g c = file_joined c.write_table.result (codes "in ") c.args.number _ _ _ c.in_ok-write_all.ensures.bytes c.write_table.ensures
