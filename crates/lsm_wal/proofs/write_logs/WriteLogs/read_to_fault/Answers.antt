use Rattle.std.proofs.Common.{◌++◌, List, ℕ, sym, subst, ap, ◌∙◌}
use Rattle.lsm_wal.specs.WriteLog.{AreBatches, after}
use Rattle.lsm_wal.proofs.FrontLaws.{fronts, spelled_above}
use Rattle.lsm_wal.proofs.RowLaws.{row_more}
use Rattle.lsm_wal.proofs.write_logs.WriteLogs.read_to_fault.Goals as goal

pub end_of-end-requires : goal.end_of-end-requires
end_of-end-requires c =
    let front = c.in_ok-front.ensures.front in
    let is = c.deref.ensures.value ∙ c.into_vec-batches.ensures in (
      front.log.records,
      subst (λ bs. AreBatches c.self.inside.end front.log.records bs) (sym is)
          (spelled_above c.self.inside.end front.log.records c.in_ok-front.front.log.batches
          front.above front.log.spelled),
    )

pub invariant_of-self-2 : goal.invariant_of-self-2
invariant_of-self-2 c =
    let front = c.in_ok-front.ensures.front in
    let is = c.deref.ensures.value ∙ c.into_vec-batches.ensures in
    row_more c.self.inside.batches.items c.in_ok-front.front.log.batches c.deref.result.now
    c.deref.result.now c.append.new.self.items front.log.records c.self.inside.end
    c.end_of-end.result c.self.invariant.0 c.self.invariant.1 front.log.spelled is is
    (λ ss a. subst (λ bs. AreBatches c.self.inside.end ss bs) (sym is)
    (spelled_above c.self.inside.end ss c.in_ok-front.front.log.batches front.above
    (subst (λ bs. AreBatches 0 ss bs) is a)))
    c.end_of-end.ensures
    (c.in_ok-append.ensures.items ∙ ap (λ ws. c.self.inside.batches.items ++ ws)
    c.into_vec-batches.ensures)

pub returns-clause-front : goal.returns-clause-front
returns-clause-front c =
    let log = c.in_ok-front.front.log in
    fronts c.first_batches.ensures c.self.inside.end c.args.bytes.now c.in_ok-front.front.len
    c.left_behind-left.result log.rest log.batches c.in_ok-front.front.fault
    c.in_ok-front.ensures.front c.in_ok-front.ensures.inside c.in_ok-front.ensures.fault
    c.left_behind-left.ensures _ _ (c.self.invariant.1 ∙ ap (after 0) c.self.view_is)
    (c.in_ok-append.ensures.items ∙ ap (λ ws. c.self.inside.batches.items ++ ws)
    c.into_vec-batches.ensures ∙ ap (λ bs. bs ++ log.batches) c.self.view_is)
