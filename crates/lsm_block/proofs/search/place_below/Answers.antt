use Rattle.std.proofs.Common.{◌≡◌, take, arith}
use Rattle.lsm_block.proofs.BuildLaws.{common-fits}
use Rattle.lsm_block.proofs.PassLaws.{below_behind}
use Rattle.lsm_block.proofs.search.place_below.Goals as goal

pub returns-then-own-common : goal.returns-then-own-common
returns-then-own-common c =
    let own = c.split_at.result.0.now in
    let rest = c.split_at-2.result.1.now in
    let common = c.common_prefix-common.result in
    let same : take common own ≡ take common rest =
    rw c.common_prefix-common.ensures (common-fits own rest).2 in
    rw (← c.split_at.ensures.front) (below_behind c.args.shared common own c.args.user.now
    c.requires.within (omega arith) (rw (← c.split_at-2.ensures.back) (omega arith))
    (rw (← c.split_at-2.ensures.back) same)
    (rw (← c.split_at-2.ensures.back) (omega arith)))
