-- Reading a write-ahead log from left to right, with the first fault (this project's rule; LevelDB
-- drops a batch at fault, or refuses to open where it is paranoid).
use Rattle.std.specs.Prelude.{ℕ, zero, suc, ◌+◌, ◌-◌, ◌==◌, nat_lt, nat_le, if◌then◌else◌, List}
use Rattle.std.specs.Prelude.{[], ◌∷◌, length, take, drop, get_or, None, Some, Result, Ok, Err}
use Rattle.std.specs.Int.{w32, w64, from_le_bytes}
use Rattle.lsm_codec.specs.declared.fault.CodecFault.{CodecFault}
use Rattle.lsm_codec.specs.Varint.{varint32_at}
use Rattle.lsm_manifest.specs.declared.log_fault.LogFault.{LogFault}
use Rattle.lsm_manifest.specs.LogReading.{Whole, log_at}
use Rattle.lsm_batch.specs.declared.write.Write.{Write}
use Rattle.lsm_wal.specs.declared.write_log_fault.WriteLogFault.{WriteLogFault}
use Rattle.lsm_wal.specs.declared.write_log_fault.WriteLogFault.TheVariants.{BatchShort, WriteKind}
use Rattle.lsm_wal.specs.declared.write_log_fault.WriteLogFault.TheVariants.{WriteCut, BatchCount}
use Rattle.lsm_wal.specs.declared.write_log_fault.WriteLogFault.TheVariants.{BatchSequence}
use Rattle.lsm_wal.specs.declared.write_log_fault.WriteLogFault.TheVariants.{SequenceOrder}
use Rattle.lsm_wal.specs.declared.write_batch.WriteBatch.{WriteBatch}
use Rattle.lsm_wal.specs.WriteLogFault.{log_fault}

-- what is at the front, and what follows it
abbrev pub Read : Type 0 → Type 0
Read A = Result (A × List ℕ) WriteLogFault

-- what is read next, where nothing was at fault before
infixl 10 ◌>>=◌
abbrev pub ◌>>=◌ : {A B : Type 0} → Result A WriteLogFault → (A → Result B WriteLogFault)
    → Result B WriteLogFault
(Ok x) >>= f = f x
(Err e) >>= f = Err e

abbrev pub or_cut : Result (ℕ × List ℕ) CodecFault → Read ℕ
or_cut (Ok x) = Ok x
or_cut (Err e) = Err WriteCut

-- ---- a write

-- so many bytes, and what follows them
abbrev pub bytes_of : ℕ → List ℕ → Read (List ℕ)
bytes_of size text =
    if nat_le size (length text) then Ok (take size text, drop size text) else Err WriteCut

unfoldable pub bytes_at : List ℕ → Read (List ℕ)
bytes_at text = or_cut (varint32_at text) >>= λ x. bytes_of x.0 x.1

unfoldable pub deleted_at : List ℕ → Read Write
deleted_at text = bytes_at text >>= λ k. Ok (record { key = k.0; value = None }, k.1)

unfoldable pub put_at : List ℕ → Read Write
put_at text =
    bytes_at text >>= λ k. bytes_at k.1 >>= λ v. Ok (record { key = k.0; value = Some v.0 }, v.1)

-- the parts that follow a type
unfoldable pub kind_at : ℕ → List ℕ → Read Write
kind_at kind text =
    if kind == 0 then deleted_at text
    else if kind == 1 then put_at text
    else Err (WriteKind kind)

unfoldable pub next_at : List ℕ → Read Write
next_at [] = Err WriteCut
next_at (kind ∷ text) = kind_at kind text

-- the writes of a text, or the first fault
unfoldable pub writes_at : ℕ → List ℕ → Result (List Write) WriteLogFault
writes_at zero text = Ok []
writes_at (suc count) [] = Ok []
writes_at (suc count) (b ∷ bs) =
    next_at (b ∷ bs) >>= λ x. writes_at count x.1 >>= λ ws. Ok (x.0 ∷ ws)

-- ---- a batch

-- the first sequence that is stated
abbrev pub first_of : List ℕ → ℕ
first_of t =
    from_le_bytes w64 (get_or t 0 0 ∷ get_or t 1 0 ∷ get_or t 2 0 ∷ get_or t 3 0
    ∷ get_or t 4 0 ∷ get_or t 5 0 ∷ get_or t 6 0 ∷ get_or t 7 0 ∷ [])

-- the number of writes that is stated
abbrev pub count_of : List ℕ → ℕ
count_of t =
    from_le_bytes w32 (get_or t 8 0 ∷ get_or t 9 0 ∷ get_or t 10 0 ∷ get_or t 11 0 ∷ [])

-- the batch of these writes, where they are as many as stated and their sequences fit
abbrev pub counted_at : ℕ → ℕ → List Write → Result WriteBatch WriteLogFault
counted_at first count ws =
    if length ws == count
    then (if nat_lt (72057594037927936 - count) first then Err BatchSequence
    else Ok (record { first = first; writes = ws })) else Err BatchCount

unfoldable pub batch_at : List ℕ → Result WriteBatch WriteLogFault
batch_at text =
    if nat_lt (length text) 12 then Err BatchShort
    else writes_at (length (drop 12 text)) (drop 12 text)
    >>= λ ws. counted_at (first_of text) (count_of text) ws

-- ---- a log

-- the batches of records, or the first fault
unfoldable pub batches_at : ℕ → List (List ℕ) → Result (List WriteBatch) WriteLogFault
batches_at least [] = Ok []
batches_at least (r ∷ rs) =
    batch_at r >>= λ b. if nat_lt b.first least then Err SequenceOrder
    else (batches_at (b.first + length b.writes) rs >>= λ bs. Ok (b ∷ bs))

abbrev pub with_rest : ℕ → Result (List WriteBatch) WriteLogFault
    → Result (List WriteBatch × ℕ) WriteLogFault
with_rest rest r = r >>= λ bs. Ok (bs, rest)

abbrev pub on_log : Result Whole LogFault → Result (List WriteBatch × ℕ) WriteLogFault
on_log (Err e) = Err (log_fault e)
on_log (Ok w) = with_rest w.1 (batches_at 0 w.0)

-- the batches of a log and its rest, or the first fault: that of the record log, if it has one
unfoldable pub log_writes_at : List ℕ → Result (List WriteBatch × ℕ) WriteLogFault
log_writes_at bytes = on_log (log_at bytes)
