use Rattle.std.proofs.Common.{refl, inl}
use Rattle.lsm_frames.specs.Views.{between_of}
use Rattle.lsm_channels.proofs.KnownLaws.{later_then}
use Rattle.lsm_channels.proofs.WorkLaws.{range_clears, range_stops}
use Rattle.lsm_channels.proofs.compacting.compact_range.Goals as goal

pub returns-in_default-clause-stopped : goal.returns-in_default-clause-stopped
returns-in_default-clause-stopped g c = inl (refl, refl)

pub returns-clause-compacted : goal.returns-clause-compacted
returns-clause-compacted g c =
    range_clears g.S.Shelf.honest (g.S.Shelf.refuses g.N.Naming.place) g.K.Invariant.keeps c.in-Ok.picks (between_of c.args.bounds) c.args.memory.now c.aim.new.memory c.clear.new.memory _ _ c.clear.result c.in-Ok.ensures.aimed c.clear.ensures.clear
    c.clear.ensures.worked

pub returns-clause-stopped : goal.returns-clause-stopped
returns-clause-stopped g c = range_stops g.S.Shelf.honest (g.S.Shelf.refuses g.N.Naming.place) g.K.Invariant.keeps c.in-Ok.picks (between_of c.args.bounds) c.args.memory.now c.aim.new.memory _ _ c.clear.result c.in-Ok.ensures.aimed c.clear.ensures.stopped

pub returns-clause-known : goal.returns-clause-known
returns-clause-known g c = later_then c.args.memory.now c.aim.new.memory c.clear.new.memory c.aim.ensures.known c.clear.ensures.known

pub returns-clause-kept : goal.returns-clause-kept
returns-clause-kept g c = λ known. c.clear.ensures.kept c.aim.ensures.kept
