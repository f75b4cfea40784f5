-- Live jobs and snapshots in their lists.
use Rattle.std.proofs.Common.{◌≡◌, ℕ, ◌≤◌, ◌<◌, not, List, [], ◌∷◌, ◌++◌, refl, sym, ◌∙◌, ap, subst, inl, inr, ◌⊎◌, ◌==◌, cond}
use Rattle.std.proofs.lemmas.Bool.{cases_Bool, both_ways, eqb-true, eq-eqb, not-true}
use Rattle.lsm_codec.specs.Lists.{Has}
use Rattle.lsm_codec.proofs.CallerLemmas.{has_cases, filter_has}
use Rattle.lsm_model.specs.Plain.{Live, without_job, without_snapshot, booking, drawing}
use Rattle.lsm_model.specs.Law.{AreRising}

-- ---- taken out

pub left_job : (ticket : ℕ) (live : List Live) (a : Live) → Has (without_job ticket live) a → Has live a × (a.job.ticket ≡ ticket → ⊥)
left_job ticket live a h =
    let r = filter_has (λ b. not (b.job.ticket == ticket)) live a h in
    (r.0, λ e. both_ways (a.job.ticket == ticket) (not-true (a.job.ticket == ticket) r.1) (eq-eqb a.job.ticket ticket e))

pub left_snapshot : (id : ℕ) (ps : List (ℕ × ℕ)) (p : ℕ × ℕ) → Has (without_snapshot id ps) p → Has ps p
left_snapshot id ps p h = (filter_has (λ q. not (q.0 == id)) ps p h).0

-- ---- one more

pub one_more : {X : Type 0} (xs : List X) (q p : X) → Has (xs ++ q ∷ []) p → Has xs p ⊎ (q ≡ p)
one_more xs q p h = elim (has_cases xs (q ∷ []) p h) [ inl a ↦ inl a | inr b ↦ elim b [ inl e ↦ inr e | inr none ↦ absurd none ] ]

-- ---- booked

-- a job after a draw is a job before it, with its numbers and perhaps the new one
pub was_before : (ticket n : ℕ) (live : List Live) (b : Live) → Has (booking ticket n live) b
    → (a : Live) × Has live a × (a.job ≡ b.job) × ((m : ℕ) → Has b.drawn m → ((n ≡ m) × (b.job.ticket ≡ ticket)) ⊎ Has a.drawn m) × ((b ≡ a) ⊎ (b ≡ drawing n a))
was_before ticket n [] b h = absurd h
was_before ticket n (a ∷ live) b (inr h) = (let r = was_before ticket n live b h in (r.0, inr r.1, r.2, r.3, r.4))
was_before ticket n (a ∷ live) b (inl h) = elim (cases_Bool (a.job.ticket == ticket)) [
  | inl t ↦ (
      let e : drawing n a ≡ b = subst (λ c. cond c (drawing n a) a ≡ b) t h in (
        a,
        inl refl,
        ap (λ (x : Live). x.job) e,
        λ m k. elim (one_more a.drawn n m (subst (λ (x : Live). Has x.drawn m) (sym e) k)) [
          | inl old ↦ inr old
          | inr new ↦ inl (new, ap (λ (x : Live). x.job.ticket) (sym e) ∙ eqb-true a.job.ticket ticket t)
        ],
        inr (sym e),
      ))
  | inr f ↦ (
      let e : a ≡ b = subst (λ c. cond c (drawing n a) a ≡ b) f h in
      (a, inl refl, ap (λ (x : Live). x.job) e, λ m k. inr (subst (λ (x : Live). Has x.drawn m) (sym e) k), inl (sym e)))
]

abbrev pub booked_of : ℕ → ℕ → Live → Live
booked_of ticket n a = cond (a.job.ticket == ticket) (drawing n a) a

pub booked_is : (ticket n : ℕ) (live : List Live) (b : Live) → Has (booking ticket n live) b → (a : Live) × Has live a × (booked_of ticket n a ≡ b)
booked_is ticket n [] b h = absurd h
booked_is ticket n (a ∷ live) b (inl h) = (a, inl refl, h)
booked_is ticket n (a ∷ live) b (inr h) = (let r = booked_is ticket n live b h in (r.0, inr r.1, r.2))

-- ---- rising

pub rising_less : (id : ℕ) (ps : List (ℕ × ℕ)) → AreRising ps → AreRising (without_snapshot id ps)
rising_less id [] r = tt
rising_less id (p ∷ ps) r = elim (cases_Bool (p.0 == id)) [
  | inl t ↦ subst (λ b. AreRising (cond (not b) (p ∷ without_snapshot id ps) (without_snapshot id ps))) (sym t) (rising_less id ps r.1)
  | inr f ↦ subst (λ b. AreRising (cond (not b) (p ∷ without_snapshot id ps) (without_snapshot id ps))) (sym f) (λ q h. r.0 q (left_snapshot id ps q h), rising_less id ps r.1)
]

pub rising_more : (ps : List (ℕ × ℕ)) (id last : ℕ) → AreRising ps → ((p : ℕ × ℕ) → Has ps p → p.0 < id) → ((p : ℕ × ℕ) → Has ps p → p.1 ≤ last) → AreRising (ps ++ (id, last) ∷ [])
rising_more [] id last r ids upto = (λ q h. absurd h, tt)
rising_more (p ∷ ps) id last r ids upto = (
  λ q h. elim (one_more ps (id, last) q h) [
    | inl old ↦ r.0 q old
    | inr e ↦ subst (λ (z : ℕ × ℕ). (p.0 < z.0) × (p.1 ≤ z.1)) e (ids p (inl refl), upto p (inl refl))
  ],
  rising_more ps id last r.1 (λ q h. ids q (inr h)) (λ q h. upto q (inr h)),
)
