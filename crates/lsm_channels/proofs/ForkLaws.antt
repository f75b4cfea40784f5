-- Forks of a shelf, in their order.
use Rattle.std.proofs.Common.{◌≡◌, ℕ, zero, suc, ◌+◌, ◌*◌, List, [], ◌∷◌, ◌++◌, map, refl, sym}
use Rattle.std.proofs.Common.{ap, ◌∙◌, arith}
use Rattle.lsm_shelf.specs.Place.{Place}
use Rattle.lsm_shelf.specs.Told.{Told, fork_at, next_fork}
use Rattle.lsm_channels.specs.Served.{Served}
use Rattle.lsm_channels.specs.Serving.{own_forks}

-- the fork behind one
pub fork_next : (p : Place) (number after : ℕ) (own fork : Told) → own ≡ fork_at p number → fork
    ≡ fork_at p after → after ≡ number + 1 → fork ≡ next_fork own
fork_next p number after own fork own_is fork_is next = fork_is ∙ ap (λ (i : ℕ). fork_at p i) next
    ∙ sym (ap (λ (t : Told). next_fork t) own_is)

own_end : (p : Place) (k n : ℕ) → own_forks p k n ++ fork_at p (k + 2 * n + 1) ∷ []
    ≡ own_forks p k (suc n)
own_end p k zero = ap (λ (m : ℕ). fork_at p m ∷ []) (omega arith)
own_end p k (suc n) = ap (λ (m : ℕ). fork_at p (k + 1) ∷ own_forks p (k + 2) n ++ fork_at p m ∷ [])
    (omega arith) ∙ ap (λ (ts : List Told). fork_at p (k + 1) ∷ ts) (own_end p (k + 2) n)

shelves_end : (before : List Served) (session : Served)
    → map (λ s. s.shelf) (before ++ session ∷ []) ≡ map (λ s. s.shelf) before ++ session.shelf ∷ []
shelves_end [] session = refl
shelves_end (s ∷ before) session = ap (λ (ts : List Told). s.shelf ∷ ts)
    (shelves_end before session)

-- the session behind these
pub one_more_session : (p : Place) (k n m after : ℕ) (before more : List Served) (session : Served)
    → map (λ s. s.shelf) before ≡ own_forks p k n → session.shelf ≡ fork_at p (m + 1)
    → m ≡ k + 2 * n → after ≡ n + 1 → more ≡ before ++ session ∷ [] → map (λ s. s.shelf) more
    ≡ own_forks p k after
one_more_session p k n m after before more session so own number longer push =
    let last : m + 1 ≡ k + 2 * n + 1 = omega (arith, number) in
    let all : suc n ≡ after = omega (arith, longer) in
    ap (λ (ss : List Served). map (λ s. s.shelf) ss) push ∙ shelves_end before session
    ∙ ap (λ (ts : List Told). ts ++ session.shelf ∷ []) so
    ∙ ap (λ (t : Told). own_forks p k n ++ t ∷ []) (own ∙ ap (λ (i : ℕ). fork_at p i) last)
    ∙ own_end p k n ∙ ap (λ (i : ℕ). own_forks p k i) all
