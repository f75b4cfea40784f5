use Rattle.std.proofs.Common.{arith}
use Rattle.lsm_frames.proofs.HeldLaws.{sealed}
use Rattle.lsm_frames.proofs.frame.seal.Goals as goal

pub returns : goal.returns
returns c = sealed c.args.bytes.items c.to_le_bytes-length.result _ c.requires.room c.to_le_bytes-length.ensures (omega arith)
