use Rattle.std.proofs.Common.{ℕ, List, sym, ◌∙◌, subst}
use Rattle.lsm_table.specs.Registry.{Table}
use Rattle.lsm_shelf.proofs.CallerLemmas.{becomes_same}
use Rattle.lsm_merge.specs.Outputs.{Made}
use Rattle.lsm_merge.specs.PutBefore.{PutsBefore}
use Rattle.lsm_merge.proofs.PlaceLaws.{if_err}
use Rattle.lsm_merge.proofs.PutBefore.{before_none}
use Rattle.lsm_merge.specs.Work.{IsFinished}
use Rattle.lsm_merge.proofs.CutLaws.{merge_finished}
use Rattle.lsm_merge.proofs.compaction.compact.Goals as goal

pub invariant_of-result : goal.invariant_of-result
invariant_of-result g c =
    let m : Made = c.merge-merged.new.outputs in
    subst (λ (ts : List Table). IsFinished g.S.Shelf.honest (record { work = c.args.job; outputs = ts; put = c.into_parts-tables.result.1.items })) (sym c.into_parts-tables.ensures.tables)
    (subst (λ (ns : List ℕ). IsFinished g.S.Shelf.honest (record { work = c.args.job; outputs = m.tables; put = ns })) (sym c.into_parts-tables.ensures.put)
    (merge_finished g.S.Shelf.honest c.args.job m c.ticket-ticket.ensures.work (sym c.is_move.ensures ∙ c.if-is_move.false) c.in-Ok.ensures.good.0 c.in-Ok.ensures.sizes c.in-Ok.ensures.kept))

pub returns-then-is_move-clause-before : goal.returns-then-is_move-clause-before
returns-then-is_move-clause-before g c =
    if_err _ _ c.hand_on.result (λ e h. before_none g.S.Shelf.honest c.args.job e.2.items c.args.shelf.now c.args.shelf.now h.2 (becomes_same c.args.shelf.now)) c.hand_on.ensures.refused

pub returns-in-Err-clause-before : goal.returns-in-Err-clause-before
returns-in-Err-clause-before g c =
    subst (λ (ns : List ℕ). PutsBefore g.S.Shelf.honest c.args.job ns c.args.shelf.now c.merge-merged.new.shelf) (sym c.into_parts-tables.ensures.put) c.in-Err.ensures.before
