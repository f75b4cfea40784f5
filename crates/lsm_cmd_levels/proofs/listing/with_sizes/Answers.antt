use Rattle.std.proofs.Common.{◌∙◌, ap, map}
use Rattle.std.specs.Prelude.{string_bytes}
use Rattle.lsm_cmd_levels.proofs.ListingLaws.{none_left, one_less, so_far_all, so_far_more}
use Rattle.lsm_cmd_levels.proofs.listing.with_sizes.Goals as goal

pub loop-name-preserved : goal.loop-name-preserved
loop-name-preserved g c = record {
  sizes =
      so_far_more _ _ _ (string_bytes c.in-Some.name) _ _ _ _ _ (ap (map string_bytes) c.in-Some.ensures.steps.0) c.loop-name.invariant.sizes c.in_ok-add_file.ensures.added;
  left = one_less _ _ _ _ _ c.in-Some.ensures.steps.0 c.in-Some.ensures.steps.1 c.loop-name.invariant.left;
  place = c.add_file.ensures.place ∙ c.loop-name.invariant.place;
}

pub returns-clause-told : goal.returns-clause-told
returns-clause-told g c = so_far_all _ _ _ _ _ (none_left _ _ c.loop-name.invariant.left c.in-None.ensures.steps.0) c.loop-name.invariant.sizes
