-- Pairs that come in, batch by batch, and benchmarks that run.
use Rattle.std.proofs.Common.{◌≡◌, ℕ, suc, ◌+◌, ◌-◌, ◌≤◌, Bool, List, [], ◌∷◌, ◌++◌, length, get_or, drop, take, IfOk, refl, subst, length-append, arith}
use Rattle.std.specs.Prelude.{Result, Ok, Err}
use Rattle.std.proofs.lemmas.List.{take_rest}
use Rattle.lsm_batch.specs.declared.write.Write.{Write}
use Rattle.lsm_lines.specs.LastWrites.{KeepsLast}
use Rattle.lsm_lines.proofs.CallerLemmas.{cut_more, cut_none}
use Rattle.lsm_bulk_load.specs.Coming.{ComesNext}
use Rattle.lsm_bulk_load.specs.Marks.{Marked}
use Rattle.lsm_bulk_load.proofs.CallerLemmas.{came_more, came_none}
use Rattle.lsm_requests.specs.declared.benchmark.Benchmark.{Benchmark}
use Rattle.lsm_cmd_bench.specs.Filled.{Fills, Runs, RunsAll}
use Rattle.lsm_cmd_bench.specs.Pairs.{ArePairs, IsPairAt}

-- ---- pairs, one after another

pub pairs_then : (keys size : ℕ) (ascends : Bool) (place next : ℕ) (ws vs : List Write) → ArePairs keys size ascends place ws → next ≡ place + length ws → ArePairs keys size ascends next vs
    → ArePairs keys size ascends place (ws ++ vs)
pairs_then keys size ascends place next [] vs p is q = (let e : next ≡ place = omega (arith, is) in subst (λ n. ArePairs keys size ascends n vs) e q)
pairs_then keys size ascends place next (w ∷ ws) vs p is q =
    (p.0, pairs_then keys size ascends (suc place) next ws vs p.1 (let e : next ≡ suc place + length ws = omega (arith, is) in e) q)

pub pairs_more : (keys size : ℕ) (ascends : Bool) (place next : ℕ) (ws : List Write) (w : Write) → ArePairs keys size ascends place ws → next ≡ place + length ws
    → IsPairAt keys size ascends next w → ArePairs keys size ascends place (ws ++ w ∷ [])
pairs_more keys size ascends place next ws w p is q = pairs_then keys size ascends place next ws (w ∷ []) p is (q, tt)

-- ---- batches, one after another

pub fills_none : (keys size : ℕ) (ascends : Bool) (was : Marked) → Fills keys size ascends 0 was was
fills_none keys size ascends was = record { ws = []; are = tt; count = refl; batches = []; cut = cut_none; came = came_none was }

pub fills_more : (keys size : ℕ) (ascends : Bool) (taken count : ℕ) (was mid now : Marked) (vs batch : List Write) → Fills keys size ascends taken was mid
    → ArePairs keys size ascends taken vs → length vs ≡ count → KeepsLast vs batch → ComesNext batch mid now → Fills keys size ascends (taken + count) was now
fills_more keys size ascends taken count was mid now vs batch f pairs long last comes = record {
  ws = f.ws ++ vs;
  are = pairs_then keys size ascends 0 taken f.ws vs f.are (let e : taken ≡ 0 + length f.ws = omega (arith, f.count) in e) pairs;
  count = (let whole = length-append f.ws vs in omega (arith, whole, f.count, long));
  batches = f.batches ++ batch ∷ [];
  cut = cut_more f.ws f.batches vs batch f.cut last;
  came = came_more was mid now f.batches batch f.came comes;
}

pub fills_all : (keys size : ℕ) (ascends : Bool) (taken pairs : ℕ) (was now : Marked) → taken ≡ pairs → Fills keys size ascends taken was now → Fills keys size ascends pairs was now
fills_all keys size ascends taken pairs was now is f = subst (λ n. Fills keys size ascends n was now) is f

-- ---- benchmarks, one after another

runs_more : (keys size : ℕ) (bs : List Benchmark) (d : Benchmark) (was mid now : Marked) → 1 ≤ length bs → Runs keys size (get_or bs 0 d) was mid → RunsAll keys size (drop 1 bs) mid now
    → RunsAll keys size bs was now
runs_more keys size [] d was mid now some first rest = absurd (omega (arith, some))
runs_more keys size (b ∷ bs) d was mid now some first rest = (mid, first, rest)

-- the others are read as the slice behind the first one
pub runs_on : {F : Type 0} (r : Result Marked F) (keys size : ℕ) (bs : List Benchmark) (d : Benchmark) (was mid : Marked) → 1 ≤ length bs → Runs keys size (get_or bs 0 d) was mid
    → IfOk r (RunsAll keys size (take (length bs - 1) (drop 1 bs)) mid) → IfOk r (RunsAll keys size bs was)
runs_on (Ok now) keys size bs d was mid some first rest =
    runs_more keys size bs d was mid now some first (subst (λ (l : List Benchmark). RunsAll keys size l mid now) (take_rest bs 1) rest)
runs_on (Err e) keys size bs d was mid some first rest = tt
