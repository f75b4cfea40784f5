use Rattle.std.proofs.Common.{◌+◌, ◌∙◌, drop, map, refl, take, string_bytes, subst}
use Rattle.std.proofs.lemmas.Result.{err_from_is_err_and}
use Rattle.lsm_cmd_write.specs.Cleaning.{AreRemoved}
use Rattle.lsm_opening.proofs.CallerLemmas.{all_names, next_name}
use Rattle.lsm_cmd_write.proofs.SpareLaws.{names_around, removed_more, removed_none}
use Rattle.lsm_cmd_write.proofs.cleaning.remove_spares.Goals as goal

pub loop-name-init : goal.loop-name-init
loop-name-init g c = record { removed = removed_none _ _ _ _; place = refl }

pub loop-name-preserved : goal.loop-name-preserved
loop-name-preserved g c = record {
  removed =
      subst (λ ns. AreRemoved c.args.kept.now.journal c.args.kept.now.tables.items ns (g.C.FolderCalls.calls c.args.folder.now) (g.C.FolderCalls.calls c.remove_spare.new.folder)
      (g.O.Write.contents c.args.out.now) (g.O.Write.contents c.remove_spare.new.out))
      (next_name string_bytes c.args.names.now c.loop-name.name-index c.name-item.result c.as_str.result.now c.loop-name-test.true c.name-item.is c.as_str.ensures.value)
      (removed_more _ _ _ _ _ _ _ _ _ _ c.loop-name.invariant.removed c.in_ok-remove_spare.ensures.removed);
  place = c.remove_spare.ensures.place ∙ c.loop-name.invariant.place;
}

pub returns-in_err-remove_spare-clause-refused : goal.returns-in_err-remove_spare-clause-refused
returns-in_err-remove_spare-clause-refused g c =
    let p = err_from_is_err_and c.from_residual.result c.from_residual.ensures.1 in
    rw (p.1, p.2) record {
      front = map string_bytes (take c.loop-name.name-index c.args.names.now);
      name = c.as_str.result.now;
      back = map string_bytes (drop (c.loop-name.name-index + 1) c.args.names.now);
      parts = names_around string_bytes c.args.names.now c.loop-name.name-index c.name-item.result c.as_str.result.now c.loop-name-test.true c.name-item.is c.as_str.ensures.value;
      spare = c.in_err-remove_spare.ensures.spare;
      calls = _;
      mid = _;
      removed = c.loop-name.invariant.removed;
      stops = c.in_err-remove_spare.ensures.refused;
    }

pub returns-clause-removed : goal.returns-clause-removed
returns-clause-removed g c =
    subst (λ ns. AreRemoved c.args.kept.now.journal c.args.kept.now.tables.items ns (g.C.FolderCalls.calls c.args.folder.now) (g.C.FolderCalls.calls c.loop-name.folder)
    (g.O.Write.contents c.args.out.now) (g.O.Write.contents c.loop-name.out))
    (all_names string_bytes c.args.names.now c.loop-name.name-index c.loop-name-test.false) c.loop-name.invariant.removed
