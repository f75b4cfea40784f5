use Rattle.lsm_table.proofs.TableLaws.{one_table as one}
use Rattle.lsm_table.proofs.table.one_table.Goals as goal

pub returns : goal.returns
returns c bytes es fs t u = one bytes es fs t u
