-- The batches of a log.
use Rattle.std.proofs.Common.{◌≡◌, ℕ, List, take, Result, Ok, refl, sym, ap, ◌∙◌, subst}
use Rattle.lsm_manifest.specs.declared.log_fault.LogFault.{LogFault}
use Rattle.lsm_manifest.specs.LogReading.{Whole}
use Rattle.lsm_manifest.specs.LogView as lent
use Rattle.lsm_wal.specs.declared.write_log_fault.WriteLogFault.{WriteLogFault}
use Rattle.lsm_wal.specs.WriteLogFault.{log_fault}
use Rattle.lsm_wal.specs.Reading.{batches_at, with_rest}
use Rattle.lsm_wal.specs.View.{Fails}
use Rattle.lsm_wal.proofs.BatchLoop.{log_fails, batches_fail, read_log}
use Rattle.lsm_manifest.specs.Log.{IsLog}
use Rattle.lsm_wal.specs.declared.write_batch.WriteBatch.{WriteBatch}
use Rattle.lsm_wal.specs.WriteLog.{AreBatches, IsWriteLog, SpellsFirstBatches}
use Rattle.lsm_wal.proofs.BatchLaws.{batches_again, batches_take, same_batches}
use Rattle.lsm_wal.proofs.CutLaws.{Prefixes, cut_log}

abbrev done : List WriteBatch × ℕ → Result (List WriteBatch × ℕ) WriteLogFault
done x = Ok x

abbrev OneLog : Type 0
OneLog = (bytes : List ℕ) (rs ss : List (List ℕ)) (m n : ℕ) → IsLog bytes rs m → IsLog bytes ss n
    → (rs ≡ ss) × (m ≡ n)

pub one_write_log : OneLog → (bytes : List ℕ) (xs ys : List WriteBatch) (m n : ℕ)
    → IsWriteLog bytes xs m → IsWriteLog bytes ys n → (xs ≡ ys) × (m ≡ n)
one_write_log one bytes xs ys m n a b =
    let same = one bytes a.records b.records m n a.log b.log in
    let spelled : AreBatches 0 b.records xs =
    subst (λ (rs : List (List ℕ)). AreBatches 0 rs xs) same.0 a.spelled in
    (same_batches 0 b.records xs ys spelled b.spelled, same.1)

pub first_batches : Prefixes → (bytes : List ℕ) (bs : List WriteBatch) (rest : ℕ)
    → IsWriteLog bytes bs rest → (n : ℕ) → SpellsFirstBatches (take n bytes) bs
first_batches prefixes bytes bs rest a n =
    let p = cut_log prefixes bytes a.records rest a.log n in
    record {
      whole = p.whole;
      rest = p.rest;
      is =
          record {
            records = take p.whole a.records;
            log = p.is;
            spelled =
                batches_take p.whole 0 a.records bs a.spelled;
          };
    }

abbrev read : Whole → Result Whole LogFault
read x = Ok x

whole_is : (x y : Whole) → read x ≡ read y → x ≡ y
whole_is x y e = cc

pair_is : (records own : List (List ℕ)) (m n : ℕ) → read (records, m) ≡ Ok (own, n)
    → (records ≡ own) × (m ≡ n)
pair_is records own m n e =
    let same = whole_is (records, m) (own, n) e in
    (ap (λ (w : Whole). w.0) same, ap (λ (w : Whole). w.1) same)

-- ---- what is a log is read

pub log_only : (error : LogFault) (records : List (List ℕ)) (rest : ℕ) (bs : List WriteBatch)
    → lent.Fails error (read (records, rest)) → AreBatches 0 records bs
    → Fails (log_fault error) (done (bs, rest))
log_only error records rest bs bad a =
    subst (λ (r : Result (List WriteBatch × ℕ) WriteLogFault). Fails (log_fault error) r)
    (read_log (read (records, rest)) records rest bs refl (batches_again 0 records bs a))
    (log_fails error (read (records, rest)) bad)

pub batches_only : (error : WriteLogFault) (records own : List (List ℕ)) (rest n : ℕ)
    (bs : List WriteBatch) → read (records, rest) ≡ Ok (own, n) → Fails error (batches_at 0 own)
    → AreBatches 0 records bs → Fails error (done (bs, rest))
batches_only error records own rest n bs same bad a =
    let there = (pair_is records own rest n same).0 in
    let here : Fails error (batches_at 0 records) =
    subst (λ (rs : List (List ℕ)). Fails error (batches_at 0 rs)) (sym there) bad in
    subst (λ (r : Result (List WriteBatch × ℕ) WriteLogFault). Fails error r)
    (ap (with_rest rest) (batches_again 0 records bs a))
    (batches_fail error rest (batches_at 0 records) here)

pub found_only : (records own : List (List ℕ)) (rest n : ℕ) (bs got : List WriteBatch)
    → read (records, rest) ≡ Ok (own, n) → AreBatches 0 own got → AreBatches 0 records bs
    → done (bs, rest) ≡ Ok (got, n)
found_only records own rest n bs got same found a =
    let both = pair_is records own rest n same in
    let b = subst (λ (rs : List (List ℕ)). AreBatches 0 rs bs) both.0 a in
    let one = same_batches 0 own bs got b found in
    ap (λ (x : List WriteBatch). done (x, rest)) one ∙ ap (λ (x : ℕ). done (got, x)) both.1
