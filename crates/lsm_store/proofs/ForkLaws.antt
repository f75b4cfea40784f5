-- Forks of a shelf, counted.
use Rattle.std.proofs.Common.{◌≡◌, ℕ, zero, suc, ◌+◌, ◌≤◌, List, [], ◌∷◌, ◌++◌, refl, ap, ◌∙◌}
use Rattle.std.proofs.Common.{arith}
use Rattle.std.specs.Prelude.{Result, Ok, Err, OnErr}
use Rattle.lsm_shelf.specs.Place.{Place}
use Rattle.lsm_shelf.specs.Told.{Becomes, Forked, ForkedAtMost, ForkedTimes, Told, fork_at}
use Rattle.lsm_shelf.specs.Told.{forks_behind}

pub forking_none : (t : Told) → ForkedTimes 0 t t
forking_none t = record {
  place = refl;
  faults = omega arith;
  misses = omega arith;
  puts = refl;
  gone = refl;
  listed = refl;
  manifest = refl;
  sent = refl;
  found = refl;
  starts = refl;
  written = refl;
  forks = omega arith;
  made = refl;
}

-- some, and some more
pub forking_then : (n m k : ℕ) (a b c : Told) → k ≡ n + m → ForkedTimes n a b → ForkedTimes m b c
    → ForkedTimes k a c
forking_then n m k a b c sum p q = record {
  place = q.place ∙ p.place;
  faults = (let x = p.faults in let y = q.faults in omega arith);
  misses = (let x = p.misses in let y = q.misses in omega arith);
  puts = q.puts ∙ p.puts;
  gone = q.gone ∙ p.gone;
  listed = q.listed ∙ p.listed;
  manifest = q.manifest ∙ p.manifest;
  sent = q.sent ∙ p.sent;
  found = q.found ∙ p.found;
  starts = q.starts ∙ p.starts;
  written = q.written ∙ p.written;
  forks = (let x = p.forks in let y = q.forks in omega (arith, sum));
  made = q.made ∙ p.made;
}

pub forking_more : (n : ℕ) (a b c : Told) → ForkedTimes n a b → ForkedTimes 1 b c
    → ForkedTimes (n + 1) a c
forking_more n a b c p q = forking_then n 1 (n + 1) a b c refl p q

-- a call that gave none is no fork
pub forking_same : (a b : Told) → Becomes a b → ForkedTimes 0 a b
forking_same a b p = record {
  place = p.place;
  faults = p.faults;
  misses = p.misses;
  puts = p.puts;
  gone = p.gone;
  listed = p.listed;
  manifest = p.manifest;
  sent = p.sent;
  found = p.found;
  starts = p.starts;
  written = p.written;
  forks = (let x = p.forks in omega arith);
  made = p.made;
}

pub forking_and : (n : ℕ) (a b c : Told) → ForkedTimes n a b → Becomes b c → ForkedTimes n a c
forking_and n a b c p q = forking_then n 0 n a b c (omega arith) p (forking_same b c q)

pub forked_times : (n : ℕ) (a b : Told) → ForkedTimes n a b → Forked a b
forked_times n a b p = (n, p)

pub forked_at_most : (n : ℕ) (a b : Told) → ForkedAtMost n a b → Forked a b
forked_at_most n a b p = (p.0, p.2)

pub more_at_most : (n m : ℕ) (a b : Told) → n ≤ m → ForkedTimes n a b → ForkedAtMost m a b
more_at_most n m a b le p = (n, le, p)

-- what holds, holds where it was refused
pub on_err : {T E : Type 0} (r : Result T E) (A : Type 0) → A → OnErr r A
on_err (Ok x) A a = tt
on_err (Err e) A a = a

behind_end : (p : Place) (k n : ℕ) → forks_behind p k n ++ fork_at p (k + n + 1) ∷ []
    ≡ forks_behind p k (suc n)
behind_end p k zero = ap (λ (m : ℕ). fork_at p m ∷ []) (omega arith)
behind_end p k (suc n) =
    ap (λ (m : ℕ). fork_at p (k + 1) ∷ forks_behind p (k + 1) n ++ fork_at p m ∷ []) (omega arith)
    ∙ ap (λ (ts : List Told). fork_at p (k + 1) ∷ ts) (behind_end p (k + 1) n)

-- the next fork behind these
pub one_more_fork : (p : Place) (k n m : ℕ) (forks more : List Told) (fork : Told) → forks
    ≡ forks_behind p k n → fork ≡ fork_at p m → m ≡ k + n + 1 → more ≡ forks ++ fork ∷ []
    → more ≡ forks_behind p k (n + 1)
one_more_fork p k n m forks more fork before new number push =
    push ∙ ap (λ (ts : List Told). ts ++ fork ∷ []) before
    ∙ ap (λ (x : Told). forks_behind p k n ++ x ∷ []) (new ∙ ap (fork_at p) number)
    ∙ behind_end p k n
    ∙ ap (λ (j : ℕ). forks_behind p k j) (let e : suc n ≡ n + 1 = omega arith in e)
