-- Tickets of live jobs rise, whatever is added, drawn or taken out.
use Rattle.std.proofs.Common.{◌≡◌, ℕ, true, zero, suc, ◌<◌, ◌==◌, not, cond, length, get_or, set, List, [], ◌∷◌, ◌++◌, refl, sym, ◌∙◌, ap, subst, inl, inr, arith}
use Rattle.std.proofs.lemmas.Bool.{cases_Bool, eqb-true, eq-eqb}
use Rattle.std.proofs.lemmas.List.{map-append}
use Rattle.lsm_codec.specs.Lists.{Has}
use Rattle.lsm_codec.proofs.CallerLemmas.{has_cases}
use Rattle.lsm_merge.specs.Work.{Work}
use Rattle.lsm_live.specs.Booked.{AreIncreasing, Booked, HasTicket, booked, drawing, new_booked, tickets_of, without}
use Rattle.lsm_live.proofs.Elements.{has_at}

pub ticket_says : (live : List Booked) (n : ℕ) → Has (tickets_of live) n → HasTicket live n
ticket_says [] n h = absurd h
ticket_says (b ∷ live) n (inl e) = (b, inl refl, e)
ticket_says (b ∷ live) n (inr h) = (let r = ticket_says live n h in (r.0, inr r.1, r.2))

pub has_ticket : (live : List Booked) (b : Booked) → Has live b → Has (tickets_of live) b.work.ticket
has_ticket [] b h = absurd h
has_ticket (c ∷ live) b (inl e) = inl (ap (λ (x : Booked). x.work.ticket) e)
has_ticket (c ∷ live) b (inr h) = inr (has_ticket live b h)

-- ---- rising

increasing_pushed : (ns : List ℕ) (n : ℕ) → AreIncreasing ns → ((m : ℕ) → Has ns m → m < n) → AreIncreasing (ns ++ n ∷ [])
increasing_pushed [] n r below = (λ m h. absurd h, tt)
increasing_pushed (k ∷ ns) n r below = (
  λ m h. elim (has_cases ns (n ∷ []) m h) [
    | inl old ↦ r.0 m old
    | inr new ↦ elim new [ inl e ↦ subst (λ z. k < z) e (below k (inl refl)) | inr none ↦ absurd none ]
  ],
  increasing_pushed ns n r.1 (λ m h. below m (inr h)),
)

pub added_rise : (live : List Booked) (w : Work) → AreIncreasing (tickets_of live) → ((b : Booked) → Has live b → b.work.ticket < w.ticket)
    → AreIncreasing (tickets_of (live ++ new_booked w ∷ []))
added_rise live w r below =
    subst AreIncreasing (sym (map-append (λ (b : Booked). b.work.ticket) live (new_booked w ∷ []))) (increasing_pushed (tickets_of live) w.ticket r
    (λ m h. let s = ticket_says live m h in subst (λ n. n < w.ticket) s.2 (below s.0 s.1)))

left_ticket : (ticket : ℕ) (live : List Booked) (n : ℕ) → Has (tickets_of (without ticket live)) n → Has (tickets_of live) n
left_ticket ticket [] n h = absurd h
left_ticket ticket (b ∷ live) n h = elim (cases_Bool (b.work.ticket == ticket)) [
  | inl t ↦ inr (left_ticket ticket live n (subst (λ c. Has (tickets_of (cond (not c) (b ∷ without ticket live) (without ticket live))) n) t h))
  | inr f ↦ elim (subst (λ c. Has (tickets_of (cond (not c) (b ∷ without ticket live) (without ticket live))) n) f h) [
    | inl e ↦ inl e
    | inr k ↦ inr (left_ticket ticket live n k)
  ]
]

pub without_rise : (ticket : ℕ) (live : List Booked) → AreIncreasing (tickets_of live) → AreIncreasing (tickets_of (without ticket live))
without_rise ticket [] r = tt
without_rise ticket (b ∷ live) r = elim (cases_Bool (b.work.ticket == ticket)) [
  | inl t ↦ subst (λ c. AreIncreasing (tickets_of (cond (not c) (b ∷ without ticket live) (without ticket live)))) (sym t) (without_rise ticket live r.1)
  | inr f ↦ subst (λ c. AreIncreasing (tickets_of (cond (not c) (b ∷ without ticket live) (without ticket live)))) (sym f)
      (λ m h. r.0 m (left_ticket ticket live m h), without_rise ticket live r.1)
]

-- ---- booked at one index

pub booked_none : (ticket number : ℕ) (live : List Booked) → ((b : Booked) → Has live b → b.work.ticket ≡ ticket → ⊥) → live ≡ booked ticket number live
booked_none ticket number [] none = refl
booked_none ticket number (b ∷ live) none = elim (cases_Bool (b.work.ticket == ticket)) [
  | inl t ↦ absurd (none b (inl refl) (eqb-true b.work.ticket ticket t))
  | inr f ↦ ap (λ l. b ∷ l) (booked_none ticket number live (λ c h. none c (inr h))) ∙ subst (λ c. b ∷ booked ticket number live ≡ cond c (drawing number b) b ∷ booked ticket number live) (sym f) refl
]

pub booked_at : (live : List Booked) (ticket number i : ℕ) (x : Booked) → AreIncreasing (tickets_of live) → i < length live → x ≡ get_or live i x → x.work.ticket ≡ ticket
    → set live i (drawing number x) ≡ booked ticket number live
booked_at [] ticket number i x r lt is its = absurd (omega arith)
booked_at (b ∷ live) ticket number zero x r lt is its =
    let none : (c : Booked) → Has live c → c.work.ticket ≡ ticket → ⊥ = λ c h e. (let after = r.0 c.work.ticket (has_ticket live c h) in let here = ap (λ (y : Booked). y.work.ticket) is in omega arith) in
    let own : (b.work.ticket == ticket) ≡ true = eq-eqb b.work.ticket ticket (ap (λ (y : Booked). y.work.ticket) (sym is) ∙ its) in
    ap (λ (y : Booked). drawing number y ∷ live) is
    ∙ (ap (λ l. drawing number b ∷ l) (booked_none ticket number live none)
    ∙ subst (λ c. drawing number b ∷ booked ticket number live ≡ cond c (drawing number b) b ∷ booked ticket number live) (sym own) refl)
booked_at (b ∷ live) ticket number (suc i) x r lt is its = elim (cases_Bool (b.work.ticket == ticket)) [
  | inl t ↦ (let after = r.0 x.work.ticket (has_ticket live x (has_at live i x (omega arith) is)) in let own = eqb-true b.work.ticket ticket t in absurd (omega arith))
  | inr f ↦ ap (λ l. b ∷ l) (booked_at live ticket number i x r.1 (omega arith) is its)
      ∙ subst (λ c. b ∷ booked ticket number live ≡ cond c (drawing number b) b ∷ booked ticket number live) (sym f) refl
]
