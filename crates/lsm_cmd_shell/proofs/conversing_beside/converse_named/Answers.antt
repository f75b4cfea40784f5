use Rattle.std.proofs.Common.{ℕ, ◌≤◌, ◌+◌, inl, inr, subst, sym}
use Rattle.std.proofs.KnownBytes.{Keeps-refl}
use Rattle.lsm_shelf.specs.Stored.{Stored}
use Rattle.lsm_cmd_shell.proofs.BesideLaws.{conversed, judged_done, judged_fault}
use Rattle.lsm_cmd_shell.proofs.KeepingLaws.{come_compacting, come_found, come_replies}
use Rattle.lsm_cmd_shell.proofs.conversing_beside.converse_named.Goals as goal

pub converse_on-requires-clause-found : goal.converse_on-requires-clause-found
converse_on-requires-clause-found g c κs within = come_found g.S.Shelf.honest c.args.form c.args.lines.left _

pub converse_on-requires-clause-workers : goal.converse_on-requires-clause-workers
converse_on-requires-clause-workers g c κs within = come_compacting g.S.Shelf.honest c.args.form c.args.lines.left _

pub converse_on-requires-clause-asked : goal.converse_on-requires-clause-asked
converse_on-requires-clause-asked g c κs within = come_replies g.S.Shelf.honest c.args.form c.args.lines.left _

pub returns-in-Err-new-clause-fault : goal.returns-in-Err-new-clause-fault
returns-in-Err-new-clause-fault g c =
    inl (c.of_writer-in-Err-new.ensures, Keeps-refl _, inr (c.in-Ok.state, c.in-Ok.ensures.started))

pub returns-in-Err-converse_on-clause-fault : goal.returns-in-Err-converse_on-clause-fault
returns-in-Err-converse_on-clause-fault g c =
    inr (inr (inl (
      c.in-Ok.state,
      c.start.new.shelf,
      c.in-Ok.ensures.started,
      c.in-Err-converse_on.ensures.refused,
    )))

pub returns-in-Ok-converse_on : goal.returns-in-Ok-converse_on
returns-in-Ok-converse_on g c =
    let There = Stored g.row.S-Receipt.Denot (g.S.Shelf.is_of g.N.Naming.place) g.S.Receipt.TableReceipt.number g.S.Receipt.TableReceipt.image in
    let Refused = g.S.Shelf.refuses g.N.Naming.place in
    let H = g.S.Shelf.honest in
    let start = c.args.prepared.now.start in
    let logs = c.args.prepared.now.logs.items in
    let input = c.args.lines.left in
    let old = g.O.Write.contents c.args.out.now in
    let ends = c.deref.result.now in
    let here = c.in-Ok-converse_on in
    let just = rw c.in-Ok-converse_on.is at c.converse_on.ensures.just in
    let talked = conversed Refused H start logs c.args.form c.args.bails c.args.workers input
    here.ended.0.0 ends here.ended.1.items c.args.shelf.now c.start.new.shelf
    c.converse_on.new.shelf here.ended.0.1 old c.in-Ok.state here._left c.in-Ok-new.desk
    g.N.Naming.place c.requires.shelf c.in-Ok.ensures.started just c.in-Ok-new.ensures.clear here.ensures.talked here.ensures.kept c.deref.ensures.value
    (subst (λ (n : ℕ). (c.args.workers ≤ n) × (n ≤ c.args.workers + 1)) (sym c.deref.ensures.len) here.ensures.count) here.ensures.ends here.ensures.ended
    in
    record {
      done = judged_done Refused H start logs c.args.form c.args.bails c.args.workers input
          here.ended.0.0 ends c.args.shelf.now c.converse_on.new.shelf old c.judge.result talked
          c.judge.ensures.done;
      fault = judged_fault There Refused H start logs c.args.form c.args.bails c.args.workers input
          here.ended.0.0 ends c.args.shelf.now c.converse_on.new.shelf old _ c.judge.result talked
          c.judge.ensures.fault;
    }
