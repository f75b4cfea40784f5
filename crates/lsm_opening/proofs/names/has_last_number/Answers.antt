use Rattle.std.proofs.Common.{◌-◌, ◌^◌, refl}
use Rattle.lsm_opening.proofs.TidyLaws.{last_if, none_some}
use Rattle.lsm_opening.proofs.names.has_last_number.Goals as goal

pub returns-in-Some : goal.returns-in-Some
returns-in-Some c = last_if c.in-Some.number _ c.args.name.now refl c.in-Some.ensures.only c.in-Some.ensures.found

pub returns-in-None : goal.returns-in-None
returns-in-None c = λ h. none_some _ (c.in-None.ensures.found (2 ^ 64 - 1) h)
