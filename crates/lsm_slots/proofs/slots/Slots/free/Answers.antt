use Rattle.std.proofs.Common.{None, arith}
use Rattle.std.proofs.lemmas.Option.{slice_get_within}
use Rattle.lsm_slots.proofs.slots.Slots.free.Goals as goal

pub returns-clause-none : goal.returns-clause-none
returns-clause-none g c slot h =
    let lt = slice_get_within c.args.self.now.epochs slot None h in
    let n = c.count-slot-end.ensures in
    let past = c.loop-slot-test.false in
    c.loop-slot.invariant slot (omega arith) h
