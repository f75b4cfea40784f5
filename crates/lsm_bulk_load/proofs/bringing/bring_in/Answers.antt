use Rattle.std.proofs.Common.{refl, inl, inr}
use Rattle.lsm_bulk_load.proofs.MarkLaws.{brought_in, came_next, kept_ingest, kept_out}
use Rattle.lsm_bulk_load.proofs.bringing.bring_in.Goals as goal

pub ingest-requires-clause-kept : goal.ingest-requires-clause-kept
ingest-requires-clause-kept g c κs within = kept_ingest (g.S.Shelf.refuses g.N.Naming.place) g.O.Origin.keeps g.O.Origin.found c.args.batch.now c.requires.asked

pub returns-in-Err-clause-refused : goal.returns-in-Err-clause-refused
returns-in-Err-clause-refused g c = (
  refl,
  (
    c.args.shelf.now,
    c.ingest.new.shelf,
    kept_out (g.S.Shelf.refuses g.N.Naming.place) g.O.Origin.keeps g.O.Origin.found c.args.batch.now c.in-Err.fault c.args.shelf.now c.ingest.new.shelf c.in-Err.ensures.refused,
  ),
)

pub returns-in-Ok-mark_behind-clause-came : goal.returns-in-Ok-mark_behind-clause-came
returns-in-Ok-mark_behind-clause-came g c =
    came_next g.O.Origin.keeps g.O.Origin.found c.args.mark c.in-Ok-mark_behind.next c.args.batch.now c.in-Ok.came c.args.shelf.now c.ingest.new.shelf c.in-Ok.ensures.ok c.in-Ok-mark_behind.ensures.next

pub returns-in-Err-clause-told : goal.returns-in-Err-clause-told
returns-in-Err-clause-told g c =
    inr (c.in-Err.fault, kept_out (g.S.Shelf.refuses g.N.Naming.place) g.O.Origin.keeps g.O.Origin.found c.args.batch.now c.in-Err.fault c.args.shelf.now c.ingest.new.shelf c.in-Err.ensures.refused)

pub returns-in-Ok-mark_behind-clause-told : goal.returns-in-Ok-mark_behind-clause-told
returns-in-Ok-mark_behind-clause-told g c =
    inl (c.in-Ok.came, brought_in g.O.Origin.keeps g.O.Origin.found c.args.batch.now c.in-Ok.came c.args.shelf.now c.ingest.new.shelf c.in-Ok.ensures.ok)

pub returns-in-Err-mark_behind-clause-told : goal.returns-in-Err-mark_behind-clause-told
returns-in-Err-mark_behind-clause-told g c =
    inl (c.in-Ok.came, brought_in g.O.Origin.keeps g.O.Origin.found c.args.batch.now c.in-Ok.came c.args.shelf.now c.ingest.new.shelf c.in-Ok.ensures.ok)
