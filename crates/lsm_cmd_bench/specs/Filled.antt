-- What benchmarks bring in (this project's rule).
use Rattle.std.specs.Prelude.{◌≡◌, ℕ, ◌/◌, Bool, true, false, List, [], ◌∷◌, length}
use Rattle.lsm_batch.specs.declared.write.Write.{Write}
use Rattle.lsm_lines.specs.Cuts.{IsCut}
use Rattle.lsm_lines.specs.LastWrites.{KeepsLast}
use Rattle.lsm_shelf.specs.Asked.{Asked}
use Rattle.lsm_shelf.specs.declared.shelf_fault.ShelfFault.{ShelfFault}
use Rattle.lsm_state.specs.Held.{Held}
use Rattle.lsm_bulk_load.specs.Coming.{CameIn}
use Rattle.lsm_bulk_load.specs.Keeping.{IsKeptByAll}
use Rattle.lsm_bulk_load.specs.Marks.{Marked}
use Rattle.lsm_requests.specs.declared.benchmark.Benchmark.{Benchmark}
use Rattle.lsm_requests.specs.declared.benchmark.Benchmark.TheVariants as benchmark
use Rattle.lsm_cmd_bench.specs.Pairs.{ArePairs}

-- So many pairs were cut into batches, of each of which the last write of each key came in, in
-- their order, and nothing else did.
pub record Fills (keys size : ℕ) (ascends : Bool) (pairs : ℕ) (was now : Marked) : Type 0 where
  pub ws : List Write
  pub are : ArePairs keys size ascends 0 ws
  pub count : length ws ≡ pairs
  pub batches : List (List Write)
  pub cut : IsCut ws batches
  pub came : CameIn was now batches

-- A batch of pairs: of some, one after another, it has the last write of each key.
pub record IsOfPairs (keys size : ℕ) (batch : List Write) : Type 0 where
  pub ascends : Bool
  pub place : ℕ
  pub ws : List Write
  pub are : ArePairs keys size ascends place ws
  pub last : KeepsLast ws batch

-- The ingest of each such batch keeps the fact.
abbrev pub IsKeptByPairs : (Asked → ShelfFault → Type 0) → (keys size : ℕ) → (Held → Type 0)
    → Type 0
IsKeptByPairs Refused keys size keeps = IsKeptByAll Refused (IsOfPairs keys size) keeps

-- What a benchmark brings in, with so many keys and values of so many bytes: pairs by ascending
-- keys; as many by drawn keys; a tenth as many; or none.
abbrev pub Runs : (keys size : ℕ) → Benchmark → Marked → Marked → Type 0
Runs keys size benchmark.FillBatch was now = Fills keys size true keys was now
Runs keys size benchmark.FillRandom was now = Fills keys size false keys was now
Runs keys size benchmark.Overwrite was now = Fills keys size false keys was now
Runs keys size benchmark.ReadWhileWriting was now = Fills keys size false (keys / 10) was now
Runs keys size benchmark.ReadRandom was now = now ≡ was
Runs keys size benchmark.ReadSeq was now = now ≡ was
Runs keys size benchmark.Compact was now = now ≡ was

-- one benchmark after another
abbrev pub RunsAll : (keys size : ℕ) → List Benchmark → Marked → Marked → Type 0
RunsAll keys size [] was now = now ≡ was
RunsAll keys size (b ∷ bs) was now =
    (mid : Marked) × Runs keys size b was mid × RunsAll keys size bs mid now
