use Rattle.std.proofs.Common.{nat_eq}
use Rattle.std.proofs.lemmas.List.Filters.{dedup_is}
use Rattle.std.proofs.lemmas.List.Kept.{Contains-dedup_nat, Contains-from_dedup}
use Rattle.std.proofs.lemmas.List.Sorted.{Contains-permutation, IsPermutation-sym}
use Rattle.std.proofs.lemmas.Map.Keys.{IsStrictlyIncreasing-dedup}
use Rattle.lsm_storage.proofs.file.listing.in_order.Goals as goal

-- after a sort and a `dedup` each number is below the next
pub returns-clause-ascending : goal.returns-clause-ascending
returns-clause-ascending c = rw (dedup_is nat_eq c.sort.new.self.items c.dedup.new.self.items c.dedup.ensures.filtered) (IsStrictlyIncreasing-dedup c.sort.new.self.items c.in_ok-sort.ensures.sorted)

-- and none is lost, and none is new
pub returns-clause-all : goal.returns-clause-all
returns-clause-all c = rw (dedup_is nat_eq c.sort.new.self.items c.dedup.new.self.items c.dedup.ensures.filtered) (λ n. (
  (λ is. Contains-permutation _ _ n (IsPermutation-sym _ _ c.sort.ensures.permutation) (Contains-from_dedup nat_eq c.sort.new.self.items n is)),
  (λ is. Contains-dedup_nat c.sort.new.self.items n (Contains-permutation _ _ n c.sort.ensures.permutation is)),
))
