use Rattle.lsm_directory.proofs.TellingLaws.{name_joined}
use Rattle.lsm_directory.proofs.telling.second_lines.write_table.Goals as goal

pub returns : goal.returns
returns g c = name_joined c.write_all.result c.args.number _ _ _ c.in_ok-write_number.ensures c.write_all.ensures.bytes
