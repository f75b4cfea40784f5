use Rattle.std.proofs.Common.{◌∙◌, refl, string_bytes, subst}
use Rattle.lsm_opening.specs.Tidying.{AsksObsolete}
use Rattle.lsm_opening.proofs.NameLaws.{all_names, next_name}
use Rattle.lsm_opening.proofs.TidyLaws.{asked_more, asked_none}
use Rattle.lsm_opening.proofs.tidying.remove_obsolete.Goals as goal

pub loop-name-init : goal.loop-name-init
loop-name-init g c = record { asked = asked_none _ _; place = refl }

pub loop-name-preserved : goal.loop-name-preserved
loop-name-preserved g c = record {
  asked =
      subst (λ ns. AsksObsolete c.args.manifest ns (g.C.FolderCalls.calls c.args.folder.now) (g.C.FolderCalls.calls c.remove_if_obsolete.new.folder))
      (next_name string_bytes c.args.names.now c.loop-name.name-index c.name-item.result c.as_str.result.now c.loop-name-test.true c.name-item.is c.as_str.ensures.value)
      (asked_more _ _ _ _ _ _ c.loop-name.invariant.asked c.remove_if_obsolete.ensures.asked);
  place = c.remove_if_obsolete.ensures.place ∙ c.loop-name.invariant.place;
}

pub returns-clause-asked : goal.returns-clause-asked
returns-clause-asked g c =
    subst (λ ns. AsksObsolete c.args.manifest ns (g.C.FolderCalls.calls c.args.folder.now) (g.C.FolderCalls.calls c.loop-name.folder))
    (all_names string_bytes c.args.names.now c.loop-name.name-index c.loop-name-test.false) c.loop-name.invariant.asked
