use Rattle.std.proofs.Common.{refl}
use Rattle.lsm_script.proofs.answering.answer_call.Goals as goal

pub returns-in-ReserveRange : goal.returns-in-ReserveRange
returns-in-ReserveRange g c =
    let reply = rw (c.as_slice.ensures, c.as_slice-in-ReserveRange.ensures) at c.reserve_range.ensures in
    record { step = rw c.in-ReserveRange.is (refl, refl, reply) }
