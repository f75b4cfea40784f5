use Rattle.std.specs.Prelude.{codes}
use Rattle.lsm_directory.proofs.TellingLaws.{file_joined}
use Rattle.lsm_directory.proofs.telling.write_file.Goals as goal

pub returns : goal.returns
returns g c = file_joined c.write_table.result (codes " in ") c.args.number _ _ _ c.in_ok-write_all.ensures.bytes c.write_table.ensures
