use Rattle.std.proofs.Common.{nat_eq}
use Rattle.std.proofs.lemmas.List.Filters.{dedup_is}
use Rattle.std.proofs.lemmas.List.Kept.{Contains-dedup_nat, Contains-from_dedup}
use Rattle.std.proofs.lemmas.List.Sorted.{Contains-permutation, IsPermutation-sym}
use Rattle.std.proofs.lemmas.Map.Keys.{IsStrictlyIncreasing-dedup}
use Rattle.lsm_codec.proofs.CallerLemmas.{contains_from, contains_says}
use Rattle.lsm_repair.proofs.unsure_logs.ascending.Goals as goal

pub returns-clause-ascending : goal.returns-clause-ascending
returns-clause-ascending c =
    rw (dedup_is nat_eq c.sort.new.self.items c.dedup.new.self.items c.dedup.ensures.filtered)
    (IsStrictlyIncreasing-dedup c.sort.new.self.items c.in_ok-sort.ensures.sorted)

pub returns-clause-all : goal.returns-clause-all
returns-clause-all c =
    rw (dedup_is nat_eq c.sort.new.self.items c.dedup.new.self.items c.dedup.ensures.filtered)
    (λ n. (
      (λ is. contains_says _ n
          (Contains-permutation _ _ n (IsPermutation-sym _ _ c.sort.ensures.permutation)
          (Contains-from_dedup nat_eq c.sort.new.self.items n (contains_from _ n is)))),
      (λ is. contains_says _ n
          (Contains-dedup_nat c.sort.new.self.items n
          (Contains-permutation _ _ n c.sort.ensures.permutation (contains_from _ n is)))),
    ))
