use Rattle.std.proofs.Common.{ap, map, string_bytes}
use Rattle.lsm_opening.proofs.TidyLaws.{looks_read, on_err, reads_more, tidies}
use Rattle.lsm_opening.proofs.tidying.tidy.Goals as goal

pub returns-in_err-tidy_unspent-clause-reads : goal.returns-in_err-tidy_unspent-clause-reads
returns-in_err-tidy_unspent-clause-reads g c =
    on_err c.from_residual-in_err-tidy_unspent.result _ (reads_more _ _ _ (looks_read _ _ c.folder_names.ensures.looked) c.in_err-tidy_unspent.ensures.reads)

pub returns-clause-tidied : goal.returns-clause-tidied
returns-clause-tidied g c =
    let said = c.in_ok-names.ensures.listed in
    tidies said.0 _ _ _ _ _ said.1 said.2 c.in_ok-names.ensures.ascending (ap (map string_bytes) c.deref.ensures.value) c.in_ok-tidy_unspent.ensures.removed
