use Rattle.std.proofs.Common.{◌%◌, arith}
use Rattle.lsm_codec.proofs.LaneLaws.{low_ok, looked_up, masked_low}
use Rattle.lsm_codec.proofs.vectorwise.at_low.Goals as goal

pub swizzle : goal.swizzle
swizzle c = low_ok c.args.bytes c.fits-bytes

pub returns : goal.returns
returns c =
    looked_up _ c.args.table.now (λ x. x % 16) c.args.bytes _ c.fits-bytes
    (masked_low c.args.bytes c.fits-bytes.0) (λ x h. omega arith) c.twice.ensures
