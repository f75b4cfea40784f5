use Rattle.lsm_lines.proofs.ObjectLaws.{one_put, printed_is_read}
use Rattle.lsm_lines.proofs.laws.what_is_printed_is_read.Goals as goal

pub returns-clause-put : goal.returns-clause-put
returns-clause-put c = printed_is_read

pub returns-clause-only : goal.returns-clause-only
returns-clause-only c = one_put
