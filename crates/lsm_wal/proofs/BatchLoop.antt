-- Reading batches one after the other, as a loop does.
use Rattle.std.proofs.Common.{◌≡◌, ℕ, ◌+◌, ◌<◌, ◌≤◌, true, false, ltb, List, [], ◌∷◌, ◌++◌, length}
use Rattle.std.proofs.Common.{get_or, take, drop, Result, Ok, Err, refl, sym, ap, ◌∙◌, append_assoc}
use Rattle.std.proofs.Common.{arith, subst}
use Rattle.std.proofs.lemmas.Bool.{lt-ltb, le-ltb}
use Rattle.std.proofs.lemmas.List.{append-nil, drop_more, drop_all, take_more, take_all}
use Rattle.lsm_manifest.specs.declared.log_fault.LogFault.{LogFault}
use Rattle.lsm_manifest.specs.declared.log_fault.LogFault.TheVariants as log
use Rattle.lsm_manifest.specs.LogReading.{Whole}
use Rattle.lsm_manifest.specs.LogView as lent
use Rattle.lsm_wal.specs.declared.write_log_fault.WriteLogFault.{WriteLogFault}
use Rattle.lsm_wal.specs.declared.write_log_fault.WriteLogFault.TheVariants.{OutOfMemory}
use Rattle.lsm_wal.specs.declared.write_log_fault.WriteLogFault.TheVariants.{LogChecksum, LogOrder}
use Rattle.lsm_wal.specs.declared.write_log_fault.WriteLogFault.TheVariants.{LogType, BatchShort}
use Rattle.lsm_wal.specs.declared.write_log_fault.WriteLogFault.TheVariants.{WriteKind, WriteCut}
use Rattle.lsm_wal.specs.declared.write_log_fault.WriteLogFault.TheVariants.{BatchCount}
use Rattle.lsm_wal.specs.declared.write_log_fault.WriteLogFault.TheVariants.{BatchSequence}
use Rattle.lsm_wal.specs.declared.write_log_fault.WriteLogFault.TheVariants.{SequenceOrder}
use Rattle.lsm_wal.specs.declared.write_batch.WriteBatch.{WriteBatch}
use Rattle.lsm_wal.specs.WriteLogFault.{log_fault}
use Rattle.lsm_wal.specs.WriteLog.{IsWriteBatch, AreBatches, after}
use Rattle.lsm_wal.specs.Reading.{◌>>=◌, batch_at, batches_at, with_rest, on_log}
use Rattle.lsm_wal.specs.View.{Fails}
use Rattle.lsm_wal.proofs.BatchLaws.{batches_push, after_push}

abbrev Batches : Type 0
Batches = Result (List WriteBatch) WriteLogFault

pub with_front : List WriteBatch → Batches → Batches
with_front front (Ok later) = Ok (front ++ later)
with_front front (Err e) = Err e

pub record Goes (rs : List (List ℕ)) (i least : ℕ) (front : List WriteBatch) : Type 0 where
  pub same : with_front front (batches_at least (drop i rs)) ≡ batches_at 0 rs
  pub are : AreBatches 0 (take i rs) front
  pub least_is : after 0 front ≡ least

no_front : (read : Batches) → with_front [] read ≡ read
unfolding with_front
no_front (Ok w) = refl
no_front (Err e) = refl

pub goes_at_first : (rs : List (List ℕ)) → Goes rs 0 0 []
goes_at_first rs = record { same = no_front (batches_at 0 rs); are = tt; least_is = refl }

step : (rs : List (List ℕ)) (i least : ℕ) (front : List WriteBatch) (r : List ℕ) → i < length rs
    → r ≡ get_or rs i r → Goes rs i least front
    → batches_at 0 rs ≡ with_front front (batches_at least (r ∷ drop (i + 1) rs))
step rs i least front r lt is g =
    sym g.same ∙ ap (λ (t : List (List ℕ)). with_front front (batches_at least t))
    (drop_more rs i r lt ∙ ap (λ (x : List ℕ). x ∷ drop (i + 1) rs) (sym is))

stopped : (least : ℕ) (r : List ℕ) (rs : List (List ℕ)) (front : List WriteBatch)
    (e : WriteLogFault) → batch_at r ≡ Err e → with_front front (batches_at least (r ∷ rs)) ≡ Err e
unfolding with_front batches_at
stopped least r rs front e is = rw is refl

pub fails : (error : WriteLogFault) (rs : List (List ℕ)) (i least : ℕ) (front : List WriteBatch)
    (r : List ℕ) → i < length rs → r ≡ get_or rs i r → Goes rs i least front
    → Fails error (batch_at r) → Fails error (batches_at 0 rs)
fails OutOfMemory rs i least front r lt at g is = tt
fails (LogChecksum o) rs i least front r lt at g is = step rs i least front r lt at g
    ∙ stopped least r (drop (i + 1) rs) front (LogChecksum o) is
fails (LogOrder o) rs i least front r lt at g is = step rs i least front r lt at g ∙ stopped least r
    (drop (i + 1) rs) front (LogOrder o) is
fails (LogType o) rs i least front r lt at g is = step rs i least front r lt at g ∙ stopped least r
    (drop (i + 1) rs) front (LogType o) is
fails BatchShort rs i least front r lt at g is = step rs i least front r lt at g ∙ stopped least r
    (drop (i + 1) rs) front BatchShort is
fails (WriteKind k) rs i least front r lt at g is = step rs i least front r lt at g
    ∙ stopped least r (drop (i + 1) rs) front (WriteKind k) is
fails WriteCut rs i least front r lt at g is = step rs i least front r lt at g ∙ stopped least r
    (drop (i + 1) rs) front WriteCut is
fails BatchCount rs i least front r lt at g is = step rs i least front r lt at g ∙ stopped least r
    (drop (i + 1) rs) front BatchCount is
fails BatchSequence rs i least front r lt at g is = step rs i least front r lt at g
    ∙ stopped least r (drop (i + 1) rs) front BatchSequence is
fails SequenceOrder rs i least front r lt at g is = step rs i least front r lt at g
    ∙ stopped least r (drop (i + 1) rs) front SequenceOrder is

pub misplaced : (rs : List (List ℕ)) (i least : ℕ) (front : List WriteBatch) (r : List ℕ)
    (b : WriteBatch) → i < length rs → r ≡ get_or rs i r → Goes rs i least front → batch_at r ≡ Ok b
    → b.first < least → batches_at 0 rs ≡ Err SequenceOrder
unfolding with_front batches_at
misplaced rs i least front r b lt at g is less =
    let yes : ltb b.first least ≡ true = lt-ltb _ _ less in
    step rs i least front r lt at g ∙ rw (is, yes) refl

regroup : (front : List WriteBatch) (b : WriteBatch) (read : Batches)
    → with_front front (read >>= λ bs. Ok (b ∷ bs)) ≡ with_front (front ++ b ∷ []) read
unfolding with_front
regroup front b (Ok bs) = ap (λ (x : List WriteBatch). Ok x) (sym (append_assoc front (b ∷ []) bs))
regroup front b (Err e) = refl

passed : (least : ℕ) (r : List ℕ) (rs : List (List ℕ)) (front : List WriteBatch) (b : WriteBatch)
    → batch_at r ≡ Ok b → least ≤ b.first → with_front front (batches_at least (r ∷ rs))
    ≡ with_front (front ++ b ∷ []) (batches_at (b.first + length b.writes) rs)
unfolding batches_at
passed least r rs front b is le =
    let no : ltb b.first least ≡ false = le-ltb _ _ le in
    rw (is, no) (regroup front b (batches_at (b.first + length b.writes) rs))

pub goes_on : (rs : List (List ℕ)) (i least : ℕ) (front : List WriteBatch) (r : List ℕ)
    (b : WriteBatch) → i < length rs → r ≡ get_or rs i r → Goes rs i least front → batch_at r ≡ Ok b
    → IsWriteBatch r b → least ≤ b.first
    → Goes rs (i + 1) (b.first + length b.writes) (front ++ b ∷ [])
goes_on rs i least front r b lt at g is spelled le =
    let rank : after 0 front ≤ b.first = omega (arith, g.least_is, le) in
    let more : AreBatches 0 (take i rs ++ r ∷ []) (front ++ b ∷ []) =
    batches_push 0 (take i rs) front r b g.are spelled rank in
    record {
      same = sym (step rs i least front r lt at g ∙ passed least r (drop (i + 1) rs) front b is le);
      are = subst (λ (t : List (List ℕ)). AreBatches 0 t (front ++ b ∷ []))
          (sym (take_more rs i r lt ∙ ap (λ (x : List ℕ). take i rs ++ x ∷ []) (sym at))) more;
      least_is = after_push 0 front b;
    }

pub ends : (rs : List (List ℕ)) (i least : ℕ) (front : List WriteBatch) → length rs ≤ i
    → Goes rs i least front → batches_at 0 rs ≡ Ok front
unfolding with_front batches_at
ends rs i least front le g =
    sym g.same ∙ ap (λ (t : List (List ℕ)). with_front front (batches_at least t))
    (drop_all i rs le) ∙ ap (λ (x : List WriteBatch). Ok x) (append-nil front)

pub ends_are : (rs : List (List ℕ)) (i least : ℕ) (front : List WriteBatch) → length rs ≤ i
    → Goes rs i least front → AreBatches 0 rs front
ends_are rs i least front le g = subst (λ (t : List (List ℕ)). AreBatches 0 t front)
    (take_all i rs le) g.are

-- ---- the log

pub log_fails : (error : LogFault) (read : Result Whole LogFault) → lent.Fails error read
    → Fails (log_fault error) (on_log read)
log_fails log.OutOfMemory read is = tt
log_fails (log.LogChecksum o) read is = ap on_log is
log_fails (log.LogOrder o) read is = ap on_log is
log_fails (log.LogType o) read is = ap on_log is

pub batches_fail : (error : WriteLogFault) (rest : ℕ) (read : Batches) → Fails error read
    → Fails error (with_rest rest read)
batches_fail OutOfMemory rest read is = tt
batches_fail (LogChecksum o) rest read is = ap (with_rest rest) is
batches_fail (LogOrder o) rest read is = ap (with_rest rest) is
batches_fail (LogType o) rest read is = ap (with_rest rest) is
batches_fail BatchShort rest read is = ap (with_rest rest) is
batches_fail (WriteKind k) rest read is = ap (with_rest rest) is
batches_fail WriteCut rest read is = ap (with_rest rest) is
batches_fail BatchCount rest read is = ap (with_rest rest) is
batches_fail BatchSequence rest read is = ap (with_rest rest) is
batches_fail SequenceOrder rest read is = ap (with_rest rest) is

pub at_log : (error : WriteLogFault) (read : Result Whole LogFault) (records : List (List ℕ))
    (rest : ℕ) → read ≡ Ok (records, rest) → Fails error (batches_at 0 records)
    → Fails error (on_log read)
at_log error read records rest is bad =
    subst (λ (r : Result Whole LogFault). Fails error (on_log r)) (sym is)
    (batches_fail error rest (batches_at 0 records) bad)

pub read_log : (read : Result Whole LogFault) (records : List (List ℕ)) (rest : ℕ)
    (bs : List WriteBatch) → read ≡ Ok (records, rest) → batches_at 0 records ≡ Ok bs
    → on_log read ≡ Ok (bs, rest)
read_log read records rest bs is got = ap on_log is ∙ ap (with_rest rest) got
