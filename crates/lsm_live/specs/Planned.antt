-- Jobs of plans.
use Rattle.std.specs.Prelude.{◌≡◌}
use Rattle.lsm_picker.specs.TablePlans.{TablePlan}
use Rattle.lsm_merge.specs.Work.{Work}

-- the job has the plan's tables, at the plan's level
pub record IsWorkOf (p : TablePlan) (w : Work) : Type 0 where
  pub level : w.level ≡ p.level
  pub upper : w.upper ≡ p.upper
  pub lower : w.lower ≡ p.lower
