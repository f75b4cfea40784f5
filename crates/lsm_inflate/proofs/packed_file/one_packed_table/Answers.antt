use Rattle.lsm_inflate.proofs.TableLaws.{one_packed_table}
use Rattle.lsm_inflate.proofs.packed_file.one_packed_table.Goals as goal

pub returns : goal.returns
returns c bytes es fs fits t u = one_packed_table bytes es fs fits t u
