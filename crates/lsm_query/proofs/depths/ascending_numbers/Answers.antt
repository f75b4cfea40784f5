use Rattle.std.proofs.Common.{List, ℕ, subst}
use Rattle.std.specs.List.Sorted.{IsPermutation}
use Rattle.std.proofs.lemmas.List.Sorted.{IsNonDecreasingBy-from_sort}
use Rattle.lsm_query.proofs.depths.ascending_numbers.Goals as goal

pub returns : goal.returns
returns g c = record {
  same = subst (λ (ns : List ℕ). IsPermutation ns c.sort_unstable.new.self.items) c.in_ok-numbers.ensures c.sort_unstable.ensures.permutation;
  ascending = IsNonDecreasingBy-from_sort (λ n. n) c.sort_unstable.new.self.items c.sort_unstable.ensures.sorted;
}
