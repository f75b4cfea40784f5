use Rattle.std.proofs.Common.{◌≡◌, List, ℕ, rules, subst}
use Rattle.std.specs.Prelude.{◌↔◌}
use Rattle.lsm_codec.specs.Lists.{Has}
use Rattle.lsm_version.specs.Versions.{numbers_in}
use Rattle.lsm_cmd_write.proofs.cleaning.kept.find_kept.Goals as goal

pub returns-clause-kept : goal.returns-clause-kept
returns-clause-kept g c =
    let numbers : c.push_numbers.new.numbers.items ≡ numbers_in c.in_ok-found.found.version = search rules in
    record {
      version = c.in_ok-found.found.version;
      next = _;
      found = rw c.none.ensures at c.in_ok-found.ensures.found;
      all = subst (λ (ns : List ℕ). (n : ℕ) → Has c.in_ok-tables.tables.items n ↔ Has ns n) numbers c.in_ok-tables.ensures.all;
    }
