use Rattle.std.proofs.Common.{◌∙◌, arith}
use Rattle.lsm_codec.proofs.VectorLaws.{in_parts, started}
use Rattle.lsm_codec.proofs.vectorwise.start.Goals as goal

pub returns : goal.returns
returns c =
    let head = c.args.head.now in
    let second = c.split_at-2.ensures in
    let third = c.split_at-3.ensures in
    rw (c.load.ensures, c.load-2.ensures, c.load-3.ensures, c.load-4.ensures)
    (in_parts head c.args.register (λ i. omega (arith, c.type_inv.head i))
    ∙ started c.args.register c.seed.result head _ _ _ _ _ _ c.seed.ensures.long
    c.seed.ensures.value c.split_at.ensures.front c.split_at.ensures.back second.front second.back
    third.front third.back c.requires)
