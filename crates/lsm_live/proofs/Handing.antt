-- What a live result is to the plain machine.
use Rattle.std.proofs.Common.{◌≡◌, ℕ, suc, Bool, true, false, map, List, [], ◌∷◌, ◌++◌, sym, ◌∙◌, ap, subst, inl, inr}
use Rattle.lsm_codec.specs.Lists.{Has}
use Rattle.lsm_table.specs.Registry.{Table}
use Rattle.lsm_model.specs.Files.{File}
use Rattle.lsm_model.specs.Jobs.{IsMove}
use Rattle.lsm_model.specs.Streams.{NumbersRise}
use Rattle.lsm_version.specs.Versions.{file_of, files_of}
use Rattle.lsm_model.specs.Plain.{IsBooked, IsResult}
use Rattle.lsm_merge.specs.Work.{Done, IsFinished, IsMade, Work, job_of}
use Rattle.lsm_live.specs.Booked.{AreIncreasing, Booked, live_of}
use Rattle.lsm_live.specs.Results.{IsLiveResult, outs_of}

numbers_has : (level : ℕ) (ts : List Table) (F : File) → Has (files_of level ts) F → Has (map (λ (t : Table). t.number) ts) F.number
numbers_has level [] F h = absurd h
numbers_has level (t ∷ ts) F (inl e) = inl (ap (λ (D : File). D.number) e)
numbers_has level (t ∷ ts) F (inr h) = inr (numbers_has level ts F h)

rise : (level : ℕ) (ts : List Table) → AreIncreasing (map (λ (t : Table). t.number) ts) → NumbersRise (files_of level ts)
rise level [] r = tt
rise level (t ∷ ts) r = (λ F h. r.0 F.number (numbers_has level ts F h), rise level ts r.1)

move_is : (honest : Type 0) (d : Done) → IsMade honest d true → IsMove (job_of d.work) (outs_of d)
move_is honest d m = (
  file_of d.work.level m.0,
  ap (λ ts. files_of d.work.level ts ++ files_of (suc d.work.level) d.work.lower) m.1 ∙ ap (λ ts. files_of d.work.level (m.0 ∷ []) ++ files_of (suc d.work.level) ts) m.2,
  ap (files_of (suc d.work.level)) m.3,
)

booked_by : (honest : Type 0) (d : Done) (drawn : List ℕ) → ((n : ℕ) → Has d.put n → Has drawn n) → AreIncreasing d.put → (move : Bool) → IsMade honest d move
    → IsBooked (record { job = job_of d.work; drawn = drawn }) (outs_of d)
booked_by honest d drawn drew rising true m = inr (move_is honest d m)
booked_by honest d drawn drew rising false m = inl (
  rise (suc d.work.level) d.outputs (subst AreIncreasing (sym m.0) rising),
  λ F h. drew F.number (subst (λ (ns : List ℕ). Has ns F.number) m.0 (numbers_has (suc d.work.level) d.outputs F h)),
)

result_by : (honest : Type 0) (d : Done) → AreIncreasing d.put → (move : Bool) → IsMade honest d move → honest → IsResult (job_of d.work) (outs_of d)
result_by honest d rising true m true_shelf = inr (move_is honest d m)
result_by honest d rising false m true_shelf = (let k = m.1 true_shelf in inl record {
  merged = k.merged;
  merges = k.merges;
  cut = k.cut (rise (suc d.work.level) d.outputs (subst AreIncreasing (sym m.0) rising));
})

-- whatever the shelf is
pub result_booked : (honest : Type 0) (live : List Booked) (d : Done) (b : Booked) → IsLiveResult live d b → IsFinished honest d → IsBooked (live_of b) (outs_of d)
result_booked honest live d b r f =
    subst (λ (w : Work). IsBooked (record { job = job_of w; drawn = b.drawn }) (outs_of d)) (sym r.awaits.work) (booked_by honest d b.drawn r.awaits.drew r.rising d.work.is_move f.made)

-- over an honest shelf
pub result_is : (honest : Type 0) (live : List Booked) (d : Done) (b : Booked) → IsLiveResult live d b → IsFinished honest d → honest → IsResult (job_of b.work) (outs_of d)
result_is honest live d b r f h = subst (λ (w : Work). IsResult (job_of w) (outs_of d)) (sym r.awaits.work) (result_by honest d r.rising d.work.is_move f.made h)

pub result_ticket : (live : List Booked) (d : Done) (b : Booked) → IsLiveResult live d b → b.work.ticket ≡ d.work.ticket
result_ticket live d b r = ap (λ (w : Work). w.ticket) r.awaits.work
