use Rattle.std.proofs.Common.{map, string_bytes}
use Rattle.lsm_opening.proofs.TidyLaws.{unspent}
use Rattle.lsm_opening.proofs.tidying.tidy_unspent.Goals as goal

pub returns-clause-removed : goal.returns-clause-removed
returns-clause-removed g c = unspent c.tidy_among.result (map string_bytes c.args.names.now) _ _ c.if-are_numbers_spent.ensures c.tidy_among.ensures.removed
