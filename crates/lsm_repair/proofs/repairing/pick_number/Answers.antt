use Rattle.std.proofs.Common.{map, string_bytes, sym}
use Rattle.lsm_repair.proofs.repairing.pick_number.Goals as goal

pub returns-in-Some-clause-picked : goal.returns-in-Some-clause-picked
returns-in-Some-clause-picked g c =
    let told = c.in-Ok.ensures.listed in record {
      told = record { told = told.0; call = told.1; same = told.2 };
      free = rw (sym c.deref.ensures.value) c.in-Some.ensures.least;
    }
