-- Live jobs by their indices.
use Rattle.std.proofs.Common.{◌≡◌, ℕ, zero, suc, ◌<◌, true, length, get_or, set, List, [], ◌∷◌, Option, None, Some, is_some, refl, ◌∙◌, ap, inl, inr, arith}
use Rattle.std.specs.Prelude.{◌↔◌, MatchOption, OnErr, OnOk, Result, Ok, Err}
use Rattle.lsm_codec.specs.Lists.{Has}
use Rattle.lsm_live.specs.Booked.{Booked, HasTicket, drawing, tickets_of}

-- an index of the ticket makes it live
pub ticket_at : (live : List Booked) (ticket i : ℕ) → i < length live → ((d : Booked) → (get_or live i d).work.ticket ≡ ticket) → HasTicket live ticket
ticket_at [] ticket i lt its = absurd (omega arith)
ticket_at (b ∷ live) ticket zero lt its = (b, inl refl, its b)
ticket_at (b ∷ live) ticket (suc i) lt its = (let r = ticket_at live ticket i (omega arith) its in (r.0, inr r.1, r.2))

-- whether there is an index is whether the ticket is live
pub index_live : (live : List Booked) (ticket : ℕ) (index : Option ℕ)
    → MatchOption index ((b : Booked) → Has live b → b.work.ticket ≡ ticket → ⊥) (λ i. (i < length live) × ((d : Booked) → (get_or live i d).work.ticket ≡ ticket))
    → (is_some index ≡ true) ↔ HasTicket live ticket
index_live live ticket None none = (λ e. absurd (cc e), λ h. absurd (none h.0 h.1 h.2))
index_live live ticket (Some i) at = (λ e. ticket_at live ticket i at.0 at.1, λ h. refl)

-- a job in place of one of its ticket
pub set_tickets : (live : List Booked) (i : ℕ) (old new : Booked) → old ≡ get_or live i old → new.work.ticket ≡ old.work.ticket → tickets_of (set live i new) ≡ tickets_of live
set_tickets [] i old new is same = refl
set_tickets (b ∷ live) zero old new is same = ap (λ n. n ∷ tickets_of live) (same ∙ ap (λ (x : Booked). x.work.ticket) is)
set_tickets (b ∷ live) (suc i) old new is same = ap (λ ns. b.work.ticket ∷ ns) (set_tickets live i old new is same)

-- ---- after a draw

pub ticket_after : {A E : Type 0} (n : ℕ) (old new : Booked) (r : Result A E) → OnOk r (new ≡ drawing n old) → OnErr r (new ≡ old) → new.work.ticket ≡ old.work.ticket
ticket_after n old new (Ok x) drawn same = ap (λ (b : Booked). b.work.ticket) drawn
ticket_after n old new (Err e) drawn same = ap (λ (b : Booked). b.work.ticket) same

pub on_ok : {A E P Q : Type 0} (r : Result A E) → (P → Q) → OnOk r P → OnOk r Q
on_ok (Ok x) f p = f p
on_ok (Err e) f p = p
