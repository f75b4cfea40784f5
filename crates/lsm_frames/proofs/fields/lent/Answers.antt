use Rattle.std.proofs.Common.{refl, arith}
use Rattle.lsm_frames.proofs.fields.lent.Goals as goal

pub returns : goal.returns
returns c = record { same = refl; bytes = λ i. omega (arith, c.type_inv.bytes i) }
