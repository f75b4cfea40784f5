use Rattle.lsm_wal.proofs.WritingLaws.{batch_spelled}
use Rattle.lsm_wal.proofs.write_batch.WriteBatch.encode.Goals as goal

pub returns-clause-spelled : goal.returns-clause-spelled
returns-clause-spelled c = batch_spelled c.args.self.now c.requires
