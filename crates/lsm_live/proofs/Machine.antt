-- Live jobs as the plain machine has them, after each call.
use Rattle.std.proofs.Common.{◌≡◌, ℕ, Bool, true, false, ◌==◌, not, cond, List, [], ◌∷◌, ◌++◌, refl, sym, ◌∙◌, ap, subst, inl, inr}
use Rattle.std.proofs.lemmas.Bool.{cases_Bool}
use Rattle.std.proofs.lemmas.List.{map-append}
use Rattle.lsm_codec.specs.Lists.{Has}
use Rattle.lsm_model.specs.Plain.{Live, booking, without_job}
use Rattle.lsm_model.specs.Plain as plain
use Rattle.lsm_merge.specs.Work.{Work, job_of}
use Rattle.lsm_live.specs.Booked.{Booked, booked, drawing, live_of, lives_of, new_booked, without}

-- a live job is one of the machine's, and each of the machine's is one
pub live_has : (live : List Booked) (b : Booked) → Has live b → Has (lives_of live) (live_of b)
live_has [] b h = absurd h
live_has (c ∷ live) b (inl e) = inl (ap live_of e)
live_has (c ∷ live) b (inr h) = inr (live_has live b h)

pub live_says : (live : List Booked) (a : Live) → Has (lives_of live) a → (b : Booked) × Has live b × (live_of b ≡ a)
live_says [] a h = absurd h
live_says (b ∷ live) a (inl e) = (b, inl refl, e)
live_says (b ∷ live) a (inr h) = (let r = live_says live a h in (r.0, inr r.1, r.2))

pub lives_added : (live : List Booked) (w : Work) → lives_of (live ++ new_booked w ∷ []) ≡ lives_of live ++ record { job = job_of w; drawn = [] } ∷ []
lives_added live w = map-append live_of live (new_booked w ∷ [])

drawn_one : (number : ℕ) (b : Booked) (c : Bool) → live_of (cond c (drawing number b) b) ≡ cond c (plain.drawing number (live_of b)) (live_of b)
drawn_one number b true = refl
drawn_one number b false = refl

pub lives_booked : (ticket number : ℕ) (live : List Booked) → lives_of (booked ticket number live) ≡ booking ticket number (lives_of live)
lives_booked ticket number [] = refl
lives_booked ticket number (b ∷ live) = ap (λ (a : Live). a ∷ lives_of (booked ticket number live)) (drawn_one number b (b.work.ticket == ticket))
    ∙ ap (λ (l : List Live). cond (b.work.ticket == ticket) (plain.drawing number (live_of b)) (live_of b) ∷ l) (lives_booked ticket number live)

pub lives_without : (ticket : ℕ) (live : List Booked) → lives_of (without ticket live) ≡ without_job ticket (lives_of live)
lives_without ticket [] = refl
lives_without ticket (b ∷ live) = elim (cases_Bool (b.work.ticket == ticket)) [
  | inl t ↦ subst (λ c. lives_of (cond (not c) (b ∷ without ticket live) (without ticket live)) ≡ cond (not c) (live_of b ∷ without_job ticket (lives_of live)) (without_job ticket (lives_of live))) (sym t) (lives_without ticket live)
  | inr f ↦ subst (λ c. lives_of (cond (not c) (b ∷ without ticket live) (without ticket live)) ≡ cond (not c) (live_of b ∷ without_job ticket (lives_of live)) (without_job ticket (lives_of live))) (sym f) (ap (λ (l : List Live). live_of b ∷ l) (lives_without ticket live))
]
