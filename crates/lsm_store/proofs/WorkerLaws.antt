-- Withdrawals.
use Rattle.std.proofs.Common.{◌≡◌, ℕ, Bool, ◌==◌, not, cond, List, [], ◌∷◌, refl, sym, ap, subst, inl, inr}
use Rattle.std.proofs.lemmas.Bool.{both_ways, cases_Bool, eq-eqb, eqb-true, not-true}
use Rattle.lsm_codec.proofs.CallerLemmas.{filter_has}
use Rattle.lsm_live.specs.Booked.{Booked, HasTicket, without}

-- the job of the ticket is among the others no more
pub without_gone : (ticket : ℕ) (live : List Booked) → HasTicket (without ticket live) ticket → ⊥
without_gone ticket live h =
    let r = filter_has (λ (b : Booked). not (b.work.ticket == ticket)) live h.0 h.1 in
    both_ways (h.0.work.ticket == ticket) (not-true (h.0.work.ticket == ticket) r.1) (eq-eqb h.0.work.ticket ticket h.2)

-- where it is not live, all are the others
pub without_absent : (ticket : ℕ) (live : List Booked) → (HasTicket live ticket → ⊥) → without ticket live ≡ live
without_absent ticket [] absent = refl
without_absent ticket (b ∷ live) absent = elim (cases_Bool (b.work.ticket == ticket)) [
  | inl t ↦ absurd (absent (b, inl refl, eqb-true b.work.ticket ticket t))
  | inr f ↦ subst (λ (c : Bool). cond (not c) (b ∷ without ticket live) (without ticket live) ≡ b ∷ live) (sym f)
      (ap (λ (l : List Booked). b ∷ l) (without_absent ticket live (λ h. absent (h.0, inr h.1, h.2))))
]
