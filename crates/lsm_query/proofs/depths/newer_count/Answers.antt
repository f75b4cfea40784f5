use Rattle.std.proofs.Common.{leb, rules}
use Rattle.std.proofs.lemmas.List.Sorted.{IsPartitionPoint-from_clause, IsPartitionedBy-leb}
use Rattle.lsm_query.proofs.Newer.{newer_after}
use Rattle.lsm_query.proofs.depths.newer_count.Goals as goal

pub returns : goal.returns
returns c = λ level own.
    newer_after level c.args.numbers.now c.args.number c.partition_point-not_newer.result own c.partition_point-not_newer.ensures.bound
    (IsPartitionPoint-from_clause (λ n. leb n c.args.number) c.args.numbers.now c.partition_point-not_newer.result c.partition_point-not_newer.ensures.partitioned
    (IsPartitionedBy-leb (λ n. n) c.args.numbers.now c.args.number own.ascending) (λ a r q k. search rules))
