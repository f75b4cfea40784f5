use Rattle.std.proofs.Common.{◌∙◌, ap, map}
use Rattle.std.specs.Prelude.{string_bytes}
use Rattle.std.proofs.lemmas.Result.{err_from_is_err_and}
use Rattle.lsm_directory.proofs.LookLaws.{
  looks_then,
  none_left,
  one_less,
  refused_later,
  so_far_all,
  so_far_more,
}
use Rattle.lsm_directory.proofs.folder.looking.logs_among.Goals as goal

pub loop-name-preserved : goal.loop-name-preserved
loop-name-preserved g c = record {
  sizes =
      so_far_more _ _ _ (string_bytes c.in-Some.name) _ _ _ _ _ (ap (map string_bytes) c.in-Some.ensures.steps.0) c.loop-name.invariant.sizes c.in_ok-add_log.ensures.added;
  left = one_less _ _ _ _ _ c.in-Some.ensures.steps.0 c.in-Some.ensures.steps.1 c.loop-name.invariant.left;
  looked = looks_then _ _ _ c.loop-name.invariant.looked c.add_log.ensures.looked;
  place = c.add_log.ensures.place ∙ c.loop-name.invariant.place;
}

pub returns-in_err-add_log-clause-refused : goal.returns-in_err-add_log-clause-refused
returns-in_err-add_log-clause-refused g c =
    let p = err_from_is_err_and c.from_residual.result c.from_residual.ensures.1 in
    rw (p.1, p.2) (refused_later _ _ _ _ c.loop-name.invariant.looked c.in_err-add_log.ensures.refused)

pub returns-in_err-add_log-clause-looked : goal.returns-in_err-add_log-clause-looked
returns-in_err-add_log-clause-looked g c = looks_then _ _ _ c.loop-name.invariant.looked c.add_log.ensures.looked

pub returns-clause-told : goal.returns-clause-told
returns-clause-told g c = so_far_all _ _ _ _ _ (none_left _ _ c.loop-name.invariant.left c.in-None.ensures.steps.0) c.loop-name.invariant.sizes
