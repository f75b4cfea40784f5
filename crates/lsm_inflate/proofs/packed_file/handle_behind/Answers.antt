use Rattle.lsm_inflate.proofs.DataLaws.{end_read}
use Rattle.lsm_inflate.proofs.packed_file.handle_behind.Goals as goal

pub returns-clause-end : goal.returns-clause-end
returns-clause-end c = end_read c.args.spelled.now c.in_ok-handle.handle c.in_ok-handle.rest.now c.in_ok-handle.ensures
