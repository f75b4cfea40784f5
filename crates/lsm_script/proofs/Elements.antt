-- Lists without an element, and the jobs and results of a script by their places.
use Rattle.std.proofs.Common.{◌≡◌, ℕ, zero, suc, ◌+◌, ◌<◌, length, get_or, take, drop, List, [], ◌∷◌, ◌++◌, Option, Some, ap, refl, sym, ◌∙◌, subst, inl, arith}
use Rattle.std.specs.Prelude.{IfSome, MatchOption}
use Rattle.std.specs.List.{insert, remove}
use Rattle.lsm_codec.specs.Lists.{Has}
use Rattle.lsm_codec.proofs.CallerLemmas.{has_right}
use Rattle.lsm_merge.specs.Work.{Done, Work}
use Rattle.lsm_live.proofs.CallerLemmas.{has_at}
use Rattle.lsm_live.specs.Booked.{Booked, HasTicket, new_booked}
use Rattle.lsm_state.specs.Held.{Held}
use Rattle.lsm_state.specs.Reserving.{reserved}
use Rattle.lsm_script.specs.Replies.{IsTakenOut}

-- a list is what stands before a place, the element there, and what stands after it
pub parted_at : {X : Type 0} (xs : List X) (i : ℕ) (x : X) → i < length xs → x ≡ get_or xs i x → xs ≡ take i xs ++ x ∷ drop (suc i) xs
parted_at [] i x lt is = absurd (omega arith)
parted_at (y ∷ ys) zero x lt is = ap (λ z. z ∷ ys) (sym is)
parted_at (y ∷ ys) (suc i) x lt is = ap (λ zs. y ∷ zs) (parted_at ys i x (omega arith) is)

pub taken_out : {X : Type 0} (xs ys : List X) (i : ℕ) (x : X) → i < length xs → x ≡ get_or xs i x → ys ≡ remove xs i → IsTakenOut x xs ys
taken_out xs ys i x lt is e = record { front = take i xs; back = drop (suc i) xs; old_is = parted_at xs i x lt is; new_is = e }

-- an element that was removed is put back
pub put_back : {X : Type 0} (xs : List X) (i : ℕ) (x : X) → i < length xs → x ≡ get_or xs i x → insert (remove xs i) i x ≡ xs
put_back [] i x lt is = absurd (omega arith)
put_back (y ∷ ys) zero x lt is = ap (λ z. z ∷ ys) is
put_back (y ∷ ys) (suc i) x lt is = ap (λ zs. y ∷ zs) (put_back ys i x (omega arith) is)

-- the result of a ticket is taken out
pub result_out : (xs ys zs : List Done) (i t : ℕ) (d : Done) → zs ≡ xs → (i < length zs) × ((e : Done) → (get_or zs i e).work.ticket ≡ t) → d ≡ get_or xs i d → ys ≡ remove xs i → (d.work.ticket ≡ t) × IsTakenOut d xs ys
result_out xs ys zs i t d same at is out = (ap (λ (e : Done). e.work.ticket) is ∙ here.1 d, taken_out xs ys i d here.0 is out)
  where
    here : (i < length xs) × ((e : Done) → (get_or xs i e).work.ticket ≡ t)
    here = subst (λ (l : List Done). (i < length l) × ((e : Done) → (get_or l i e).work.ticket ≡ t)) same at

-- a job that was just added is live
pub added_is_live : (live : List Booked) (w : Work) → HasTicket (live ++ new_booked w ∷ []) w.ticket
added_is_live live w = (new_booked w, has_right live (new_booked w ∷ []) (new_booked w) (inl refl), refl)

-- the job that an option has
pub kept_live : (old new : Held) (o : Option Work) (w : Work) → o ≡ Some w → IfSome o (λ v. new ≡ reserved v old) → HasTicket new.live w.ticket
kept_live old new o w e h = subst (λ (x : Held). HasTicket x.live w.ticket) (sym (subst (λ (p : Option Work). IfSome p (λ v. new ≡ reserved v old)) e h)) (added_is_live old.live w)

-- the job of a ticket is taken out, of which the other is a copy
pub job_out : (xs ys zs : List Work) (i t : ℕ) (w x : Work) → zs ≡ xs → (i < length zs) × ((v : Work) → (get_or zs i v).ticket ≡ t) → w ≡ get_or xs i w → x ≡ w → ys ≡ remove xs i → (x.ticket ≡ t) × IsTakenOut x xs ys
job_out xs ys zs i t w x same at is copy out = subst (λ (v : Work). (v.ticket ≡ t) × IsTakenOut v xs ys) (sym copy) (ap (λ (v : Work). v.ticket) is ∙ here.1 w, taken_out xs ys i w here.0 is out)
  where
    here : (i < length xs) × ((v : Work) → (get_or xs i v).ticket ≡ t)
    here = subst (λ (l : List Work). (i < length l) × ((v : Work) → (get_or l i v).ticket ≡ t)) same at

-- what holds of the job that an option has
pub some_at : (P : Work → Type 0) (o : Option Work) (w : Work) → o ≡ Some w → IfSome o P → P w
some_at P o w e h = subst (λ (p : Option Work). IfSome p P) e h

pub match_at : (A : Type 0) (P : Work → Type 0) (o : Option Work) (w : Work) → o ≡ Some w → MatchOption o A P → P w
match_at A P o w e h = subst (λ (p : Option Work). MatchOption p A P) e h

-- the job of a ticket is there, of which the other is a copy
pub job_at : (xs zs : List Work) (i t : ℕ) (w x : Work) → zs ≡ xs → (i < length zs) × ((v : Work) → (get_or zs i v).ticket ≡ t) → w ≡ get_or xs i w → x ≡ w → Has xs x × (x.ticket ≡ t)
job_at xs zs i t w x same at is copy = subst (λ (v : Work). Has xs v × (v.ticket ≡ t)) (sym copy) (has_at xs i w here.0 is, ap (λ (v : Work). v.ticket) is ∙ here.1 w)
  where
    here : (i < length xs) × ((v : Work) → (get_or xs i v).ticket ≡ t)
    here = subst (λ (l : List Work). (i < length l) × ((v : Work) → (get_or l i v).ticket ≡ t)) same at
