use Rattle.std.proofs.Common.{arith}
use Rattle.lsm_codec.proofs.VectorLaws.{seeded}
use Rattle.lsm_codec.proofs.vectorwise.seed.Goals as goal

pub returns-clause-value : goal.returns-clause-value
returns-clause-value c =
    rw c.to_le_bytes-bytes.ensures
    (seeded _ _ _ _ c.args.register (omega arith) (omega arith) (omega arith)
    (omega (arith, c.ranges.register.fits)) (omega (arith, c.ranges.register.fits)))
