-- The jobs of plans.
use Rattle.std.proofs.Common.{◌≡◌, ℕ, suc, Bool, List, ◌++◌, refl, ap, sym, subst, inl, inr}
use Rattle.std.specs.Prelude.{◌⊎◌}
use Rattle.lsm_codec.specs.Keys.{UserKey}
use Rattle.lsm_codec.specs.Lists.{Has}
use Rattle.lsm_codec.proofs.CallerLemmas.{has_cases}
use Rattle.lsm_model.specs.Files.{File}
use Rattle.lsm_model.specs.Jobs.{IsOpenIn}
use Rattle.lsm_model.specs.Plans.{IsJobOf}
use Rattle.lsm_model.proofs.CallerLemmas.{plan_opens}
use Rattle.lsm_version.specs.Versions.{IsSound, Levels, files, files_of}
use Rattle.lsm_picker.specs.RangesBelow.{AreRangesBelow}
use Rattle.lsm_picker.specs.TablePlans.{IsPlanFrom, StandsIn, TablePlan, job_of, plan_of}
use Rattle.lsm_picker.proofs.LevelFiles.{files_has, in_files}

pub job_is : (v : Levels) (p : TablePlan) (ticket floor : ℕ) (ranges : List (UserKey × UserKey)) (is_move : Bool) → AreRangesBelow v p.level ranges
    → IsJobOf (files v) (plan_of p) (job_of p ticket floor ranges is_move)
job_is v p ticket floor ranges is_move r = record {
  level = refl;
  inputs = refl;
  low = refl;
  high = refl;
  ranges = r.all;
  ranges_from = r.only;
}

pub job_opens : (v : Levels) (starts : List File) (p : TablePlan) (ticket floor : ℕ) (ranges : List (UserKey × UserKey)) (is_move : Bool) → IsSound v
    → IsPlanFrom v (Has starts) p → AreRangesBelow v p.level ranges → IsOpenIn (files v) (job_of p ticket floor ranges is_move)
job_opens v starts p ticket floor ranges is_move s q r =
    plan_opens (files v) (Has starts) (plan_of p) (job_of p ticket floor ranges is_move) s.lawful q.closed (job_is v p ticket floor ranges is_move r)

pub input_in : (v : Levels) (p : TablePlan) (F : File) → StandsIn v p → Has (files_of p.level p.upper ++ files_of (suc p.level) p.lower) F
    → Has (files v) F × ((F.level ≡ p.level) ⊎ (F.level ≡ suc p.level))
input_in v p F s h = elim (has_cases (files_of p.level p.upper) (files_of (suc p.level) p.lower) F h) [
  | inl up ↦ (let r = files_has p.level p.upper F up in
      (subst (Has (files v)) r.2 (in_files v p.level r.0 (s.upper r.0 r.1)), inl (sym (ap (λ (G : File). G.level) r.2))))
  | inr down ↦ (let r = files_has (suc p.level) p.lower F down in
      (subst (Has (files v)) r.2 (in_files v (suc p.level) r.0 (s.lower r.0 r.1)), inr (sym (ap (λ (G : File). G.level) r.2))))
]
