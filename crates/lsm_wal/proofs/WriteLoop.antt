-- Reading writes one after the other, as a loop does.
use Rattle.std.proofs.Common.{◌≡◌, ℕ, zero, suc, ◌+◌, ◌-◌, ◌<◌, ◌≤◌, List, [], ◌∷◌, ◌++◌, length}
use Rattle.std.proofs.Common.{Result, Ok, Err, refl, sym, ap, ◌∙◌, append_assoc, arith}
use Rattle.std.proofs.lemmas.List.{append-nil}
use Rattle.lsm_batch.specs.declared.write.Write.{Write}
use Rattle.lsm_wal.specs.declared.write_log_fault.WriteLogFault.{WriteLogFault}
use Rattle.lsm_wal.specs.declared.write_log_fault.WriteLogFault.TheVariants.{OutOfMemory}
use Rattle.lsm_wal.specs.declared.write_log_fault.WriteLogFault.TheVariants.{LogChecksum, LogOrder}
use Rattle.lsm_wal.specs.declared.write_log_fault.WriteLogFault.TheVariants.{LogType, BatchShort}
use Rattle.lsm_wal.specs.declared.write_log_fault.WriteLogFault.TheVariants.{WriteKind, WriteCut}
use Rattle.lsm_wal.specs.declared.write_log_fault.WriteLogFault.TheVariants.{BatchCount}
use Rattle.lsm_wal.specs.declared.write_log_fault.WriteLogFault.TheVariants.{BatchSequence}
use Rattle.lsm_wal.specs.declared.write_log_fault.WriteLogFault.TheVariants.{SequenceOrder}
use Rattle.lsm_wal.specs.Reading.{Read, ◌>>=◌, next_at, writes_at}
use Rattle.lsm_wal.specs.View.{Fails}

abbrev Writes : Type 0
Writes = Result (List Write) WriteLogFault

-- what was read before, and what is left
pub with_front : List Write → Writes → Writes
with_front front (Ok later) = Ok (front ++ later)
with_front front (Err e) = Err e

pub record Goes (all : Writes) (count i : ℕ) (front : List Write) (rest : List ℕ) : Type 0 where
  pub same : with_front front (writes_at (count - i) rest) ≡ all

stepped : ℕ → ℕ → List Write → Read Write → Writes
stepped count i front r =
    with_front front (r >>= λ x. writes_at (count - (i + 1)) x.1 >>= λ ws. Ok (x.0 ∷ ws))

step : (all : Writes) (count i : ℕ) (front : List Write) (rest : List ℕ) → i < count
    → 0 < length rest → Goes all count i front rest → all ≡ stepped count i front (next_at rest)
unfolding writes_at stepped
step all count i front [] lt some g = absurd (omega arith)
step all count i front (b ∷ bs) lt some g =
    let k : count - i ≡ suc (count - (i + 1)) = omega arith in
    sym g.same ∙ ap (λ (n : ℕ). with_front front (writes_at n (b ∷ bs))) k

pub fails : (error : WriteLogFault) (all : Writes) (count i : ℕ) (front : List Write)
    (rest : List ℕ) → i < count → 0 < length rest → Goes all count i front rest
    → Fails error (next_at rest) → Fails error all
unfolding stepped with_front
fails OutOfMemory all count i front rest lt some g is = tt
fails (LogChecksum o) all count i front rest lt some g is = step all count i front rest lt some g
    ∙ ap (stepped count i front) is
fails (LogOrder o) all count i front rest lt some g is = step all count i front rest lt some g
    ∙ ap (stepped count i front) is
fails (LogType o) all count i front rest lt some g is = step all count i front rest lt some g
    ∙ ap (stepped count i front) is
fails BatchShort all count i front rest lt some g is = step all count i front rest lt some g
    ∙ ap (stepped count i front) is
fails (WriteKind k) all count i front rest lt some g is = step all count i front rest lt some g
    ∙ ap (stepped count i front) is
fails WriteCut all count i front rest lt some g is = step all count i front rest lt some g
    ∙ ap (stepped count i front) is
fails BatchCount all count i front rest lt some g is = step all count i front rest lt some g
    ∙ ap (stepped count i front) is
fails BatchSequence all count i front rest lt some g is = step all count i front rest lt some g
    ∙ ap (stepped count i front) is
fails SequenceOrder all count i front rest lt some g is = step all count i front rest lt some g
    ∙ ap (stepped count i front) is

regroup : (front : List Write) (w : Write) (read : Writes)
    → with_front front (read >>= λ ws. Ok (w ∷ ws)) ≡ with_front (front ++ w ∷ []) read
unfolding with_front
regroup front w (Ok ws) = ap (λ (x : List Write). Ok x) (sym (append_assoc front (w ∷ []) ws))
regroup front w (Err e) = refl

pub goes_on : (all : Writes) (count i : ℕ) (front : List Write) (rest : List ℕ) (w : Write)
    (after : List ℕ) → i < count → 0 < length rest → Goes all count i front rest
    → next_at rest ≡ Ok (w, after)
    → Goes all count (i + 1) (front ++ w ∷ []) after
unfolding stepped
goes_on all count i front rest w after lt some g is =
    record {
      same = sym (step all count i front rest lt some g ∙ ap (stepped count i front) is
          ∙ regroup front w (writes_at (count - (i + 1)) after));
    }

no_write : (n : ℕ) → writes_at n [] ≡ Ok []
unfolding writes_at
no_write zero = refl
no_write (suc n) = refl

no_front : (read : Writes) → with_front [] read ≡ read
unfolding with_front
no_front (Ok w) = refl
no_front (Err e) = refl

pub ends_empty : (all : Writes) (count i : ℕ) (front : List Write) (rest : List ℕ) → length rest ≡ 0
    → Goes all count i front rest → all ≡ Ok front
unfolding with_front
ends_empty all count i front (b ∷ bs) h g = absurd (omega arith)
ends_empty all count i front [] h g = sym g.same ∙ ap (with_front front) (no_write (count - i))
    ∙ ap (λ (x : List Write). Ok x) (append-nil front)

pub runs_out : (all : Writes) (count i : ℕ) (front : List Write) (rest : List ℕ) → count ≤ i
    → Goes all count i front rest → all ≡ Ok front
unfolding with_front writes_at
runs_out all count i front rest le g =
    let k : count - i ≡ 0 = omega arith in
    sym g.same ∙ ap (λ (n : ℕ). with_front front (writes_at n rest)) k
    ∙ ap (λ (x : List Write). Ok x) (append-nil front)

pub goes_at_first : (text : List ℕ) → Goes (writes_at (length text) text) (length text) 0 [] text
goes_at_first text =
    let k : length text - 0 ≡ length text = omega arith in
    record {
      same = ap (λ (n : ℕ). with_front [] (writes_at n text)) k
          ∙ no_front (writes_at (length text) text);
    }
