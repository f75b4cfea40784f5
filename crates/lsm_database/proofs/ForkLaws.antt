-- Forks for a program and its workers.
use Rattle.std.proofs.Common.{◌≡◌, ℕ, ◌+◌, List, refl, ap, ◌∙◌, arith, subst}
use Rattle.std.specs.Prelude.{Ok, Err}
use Rattle.lsm_shelf.specs.Asked.{Asked}
use Rattle.lsm_shelf.specs.Told.{CountedBy, ForkedAtMost, ForkedTimes, GivesForks, Told}
use Rattle.lsm_shelf.specs.Told.{next_count}
use Rattle.lsm_shelf.specs.declared.shelf_fault.ShelfFault.{ShelfFault}
use Rattle.lsm_shelf.specs.declared.shelf_fault.ShelfFault.TheVariants.{Device, Missing}
use Rattle.lsm_shelf.specs.declared.shelf_fault.ShelfFault.TheVariants.{OutOfMemory, Taken}
use Rattle.lsm_state.specs.Held.{Held}
use Rattle.lsm_store.specs.Working.{HaveEndedBeside}
use Rattle.lsm_store.specs.declared.worker_end.WorkerEnd.{WorkerEnd}
use Rattle.lsm_store.proofs.CallerLemmas.{forking_then}

-- some, and then at most so many
pub some_then_at_most : (n m k : ℕ) (a b c : Told) → k ≡ n + m → ForkedTimes n a b
    → ForkedAtMost m b c → ForkedAtMost k a c
some_then_at_most n m k a b c sum p q = (
  n + q.0,
  (let few = q.1 in omega (arith, few, sum)),
  forking_then n q.0 (n + q.0) a b c refl p
      q.2,
)

-- at most fewer
pub at_most_more : (n k : ℕ) (a b : Told) → k ≡ n + 1 → ForkedAtMost n a b → ForkedAtMost k a b
at_most_more n k a b sum p = (p.0, (let few = p.1 in omega (arith, few, sum)), p.2)

-- calls of which none was refused
abbrev pub UncountedIn : Told → Told → Type 0
UncountedIn a b = CountedBy {T = Unit {0}} (Ok tt) a b

pub gives_then : (n m k : ℕ) (a b c : Told) → k ≡ n + m → ForkedTimes n a b → UncountedIn a b
    → ForkedTimes m b c → UncountedIn b c → GivesForks k a c
gives_then n m k a b c sum p same q still =
    (forking_then n m k a b c sum p q, (still.0 ∙ same.0, still.1 ∙ same.1))

-- a refusal behind such calls
pub counted_then : (fault : ShelfFault) (a b c : Told) → UncountedIn a b → CountedBy {T = Unit {0}}
    (Err fault) b c → CountedBy {T = Unit {0}} (Err fault) a c
counted_then OutOfMemory a b c p q = (q.0 ∙ p.0, q.1 ∙ p.1)
counted_then Device a b c p q = (q.0 ∙ ap next_count p.0, q.1 ∙ p.1)
counted_then Missing a b c p q = (q.0 ∙ p.0, q.1 ∙ ap next_count p.1)
counted_then (Taken n) a b c p q = (q.0 ∙ p.0, q.1 ∙ ap next_count p.1)

-- workers over these shelves, by whatever name
pub beside_of : (honest : Type 0) (Refused : Asked → ShelfFault → Type 0) (keeps : Held → Type 0)
    (shelves forks : List Told) (ends : List WorkerEnd)
    → shelves ≡ forks → HaveEndedBeside honest Refused keeps shelves ends
    → HaveEndedBeside honest Refused keeps forks ends
beside_of honest Refused keeps shelves forks ends same ended =
    subst (λ (ts : List Told). HaveEndedBeside honest Refused keeps ts ends) same ended
