use Rattle.std.proofs.Common.{arith}
use Rattle.lsm_codec.proofs.InternalKeys.{kind_is_some_key}
use Rattle.lsm_codec.proofs.internal_key.is_internal_key.Goals as goal

pub returns-then-bytes-ge8-clause-spelled : goal.returns-then-bytes-ge8-clause-spelled
returns-then-bytes-ge8-clause-spelled c = kind_is_some_key c.args.bytes.now (λ i. omega (arith, c.type_inv.bytes i)) c.if-bytes-ge8.true
