use Rattle.std.proofs.Common.{◌/◌, ◌^◌, arith}
use Rattle.std.proofs.lemmas.Simd.{zip2_splat}
use Rattle.lsm_codec.proofs.LaneLaws.{high_ok, looked_up}
use Rattle.lsm_codec.proofs.vectorwise.at_high.Goals as goal

pub swizzle : goal.swizzle
swizzle c = high_ok c.args.bytes c.fits-bytes

pub returns : goal.returns
returns c =
    looked_up _ c.args.table.now (λ x. x / 16) c.args.bytes _ c.fits-bytes
    (zip2_splat (λ a b. a / 2 ^ b) c.args.bytes 32 4 c.fits-bytes.0) (λ x h. omega arith)
    c.twice.ensures
