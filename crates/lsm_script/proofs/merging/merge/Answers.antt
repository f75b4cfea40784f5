use Rattle.std.proofs.Common.{List, [], ◌∷◌, ◌++◌, length, refl, sym, ◌∙◌, ap, subst, inl, inr}
use Rattle.lsm_merge.specs.Work.{Done, Work}
use Rattle.lsm_script.specs.Replies.{IsMerged}
use Rattle.lsm_script.proofs.Elements.{job_at, job_out}
use Rattle.lsm_script.proofs.merging.merge.Goals as goal

pub returns : goal.returns
returns g c =
    let done = c.in-Ok-merge_job.done in
    let merged = c.in-Ok-merge_job.ensures.ok in
    let out = job_out c.args.jobs.now.items c.remove.new.self.items c.deref.result.now c.in-Some.at c.args.ticket c.index.result.now done.work c.deref.ensures.value c.in-Some.ensures c.index.ensures (merged.its ∙ c.in-Ok.ensures) c.remove.ensures.items in
    record {
      reply = inl (
        length c.put_numbers-tables.result.now,
        refl,
        record {
          done = done;
          its = out.0;
          out = out.1;
          kept = c.in-Ok-push.ensures.items ∙ ap (λ (l : List Done). l ++ done ∷ []) c.reserve.ensures.items;
          count = ap length c.put_numbers-tables.ensures;
          merged = subst (λ (w : Work). IsMerged g.S.Shelf.honest w done c.args.state.now c.merge_job.new.state c.args.shelf.now c.merge_job.new.shelf) (sym merged.its) merged;
        },
      );
    }

pub returns-in-Err : goal.returns-in-Err
returns-in-Err g c =
    let there = job_at c.args.jobs.now.items c.deref.result.now c.in-Some.at c.args.ticket c.index.result.now c.in-Ok.job c.deref.ensures.value c.in-Some.ensures c.index.ensures c.in-Ok.ensures in
    record { reply = inr (inl (c.in-Err.fault, refl, (c.in-Ok.job, there.0, there.1, c.in-Err.ensures.err), refl, c.reserve.ensures.items)) }
