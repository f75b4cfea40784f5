use Rattle.std.proofs.Common.{map, string_bytes}
use Rattle.lsm_opening.proofs.TidyLaws.{among_current, reads_later}
use Rattle.lsm_opening.proofs.tidying.tidy_among.Goals as goal

pub returns-in-Some-clause-removed : goal.returns-in-Some-clause-removed
returns-in-Some-clause-removed g c =
    among_current _ c.tidy_beside.result (map string_bytes c.args.names.now) _ _ _ c.in_ok-manifest.field-0 c.in-Some.manifest c.in-Some.is c.in_ok-manifest.ensures.named c.tidy_beside.ensures.removed

pub returns-in-Some-clause-reads : goal.returns-in-Some-clause-reads
returns-in-Some-clause-reads g c = reads_later c.tidy_beside.result _ _ _ c.current_in.ensures.reads c.tidy_beside.ensures.reads
