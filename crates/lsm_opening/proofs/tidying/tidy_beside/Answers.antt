use Rattle.std.proofs.Common.{◌∙◌, map, string_bytes}
use Rattle.lsm_opening.proofs.TidyLaws.{read_true, tidied_beside}
use Rattle.lsm_opening.proofs.tidying.tidy_beside.Goals as goal

pub returns-clause-removed : goal.returns-clause-removed
returns-clause-removed g c =
    tidied_beside c.args.manifest (map string_bytes c.args.names.now) c.as_str.result.now c.as_str-2.result.now _ _ _ _ (c.as_str.ensures.value ∙ c.in_ok-file.ensures) (c.as_str-2.ensures.value ∙ c.in_ok-file.ensures)
    c.if-not-has_obsolete.ensures (read_true c.in_ok-is_read_whole.field-0 _ _ _ c.if-not-branch.false c.in_ok-is_read_whole.ensures.read) c.if-not-is_made_durable.ensures.durable
    c.remove_obsolete.ensures.asked
