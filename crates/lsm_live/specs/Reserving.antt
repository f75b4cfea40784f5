-- What a choice has to know of the live jobs.
use Rattle.std.specs.Prelude.{List, map}
use Rattle.lsm_picker.specs.Reservations.{Reserved, reserved_of}
use Rattle.lsm_merge.specs.Work.{job_of}
use Rattle.lsm_live.specs.Booked.{Booked}

-- one reservation a live job, in the order of the jobs
abbrev pub reserved_jobs : List Booked → List Reserved
reserved_jobs live = map (λ b. reserved_of (job_of b.work)) live
