use Rattle.std.proofs.Common.{◌≡◌, ◌+◌, ◌∙◌, drop, ap, sym}
use Rattle.lsm_block.specs.Building.{common}
use Rattle.lsm_block.specs.Standing.{SharesFront}
use Rattle.lsm_iterators.proofs.FrontLaws.{cmp_behind, common_behind, common_no_more, shares_common, shares_more}
use Rattle.lsm_iterators.proofs.front.compare_behind.Goals as goal

pub split_at-requires-3 : goal.split_at-requires-3
split_at-requires-3 c = rw c.common_prefix-more.ensures (shares_common c.split_at.result.1.now c.split_at-2.result.1.now).first

pub split_at-requires-4 : goal.split_at-requires-4
split_at-requires-4 c = rw c.common_prefix-more.ensures (shares_common c.split_at.result.1.now c.split_at-2.result.1.now).second

pub compare_first-requires : goal.compare_first-requires
compare_first-requires c =
    let own = c.split_at.result.1.now in
    let other = c.split_at-2.result.1.now in
    rw (c.split_at-3.ensures.back, c.split_at-4.ensures.back, c.common_prefix-more.ensures) (common_no_more own other)

pub returns-clause-order : goal.returns-clause-order
returns-clause-order c =
    let own = c.split_at.result.1.now in
    let other = c.split_at-2.result.1.now in
    let shares : SharesFront c.common_prefix-more.result own other = rw c.common_prefix-more.ensures (shares_common own other) in
    rw (c.compare_first.ensures, c.split_at-3.ensures.back, c.split_at-4.ensures.back)
    (cmp_behind c.common_prefix-more.result own other shares ∙ rw (c.split_at.ensures.back, c.split_at-2.ensures.back) (cmp_behind c.args.front c.args.a.now c.args.b.now c.requires))

pub returns-clause-shared : goal.returns-clause-shared
returns-clause-shared c =
    let shares : SharesFront c.common_prefix-more.result c.split_at.result.1.now c.split_at-2.result.1.now = rw c.common_prefix-more.ensures (shares_common c.split_at.result.1.now c.split_at-2.result.1.now) in
    shares_more c.args.front c.common_prefix-more.result c.args.a.now c.args.b.now c.requires (rw (c.split_at.ensures.back, c.split_at-2.ensures.back) at shares)

pub returns-clause-all : goal.returns-clause-all
returns-clause-all c =
    let behind : c.common_prefix-more.result ≡ common (drop c.args.front c.args.a.now) (drop c.args.front c.args.b.now) = rw (c.split_at.ensures.back, c.split_at-2.ensures.back) at c.common_prefix-more.ensures in
    ap (λ n. c.args.front + n) behind ∙ sym (common_behind c.args.front c.args.a.now c.args.b.now c.requires)
