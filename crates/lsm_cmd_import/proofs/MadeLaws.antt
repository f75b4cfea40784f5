-- A copy that is made step by step.
use Rattle.std.proofs.Common.{◌≡◌, ℕ, List, ap, arith}
use Rattle.lsm_shelf.specs.Told.{Told}
use Rattle.lsm_manifest.specs.Shape.{Form}
use Rattle.lsm_wal.specs.declared.write_batch.WriteBatch.{WriteBatch}
use Rattle.lsm_import.specs.Copied.{IsCopiedOf}
use Rattle.lsm_import.specs.Copies.{OnlyPuts}
use Rattle.lsm_import.specs.declared.copied.Copied.{Copied}
use Rattle.lsm_import.proofs.CallerLemmas.{Law, answers_from, puts_then}
use Rattle.lsm_cmd_import.specs.Copying.{IsFinished, IsMade}

-- tables were put before
abbrev finished_before : (Into : ℕ → List ℕ → Type 0) (Honest : Type 0) (batches : List WriteBatch) (tables : Copied) (count entries : ℕ) (was mid is : Told) → OnlyPuts was mid
    → IsFinished Into Honest batches tables count entries mid is → IsFinished Into Honest batches tables count entries was is
finished_before Into Honest batches tables count entries was mid is puts f = record {
  whole = f.whole;
  filled = f.filled;
  begun = record { mid = f.begun.mid; puts = puts_then was mid f.begun.mid puts f.begun.puts; begun = f.begun.begun; manifest = f.begun.manifest };
  counted = f.counted;
}

pub made : Law → (From Into : ℕ → List ℕ → Type 0) (Honest : Type 0) (shape : Form) (batches : List WriteBatch) (tables : Copied) (count entries : ℕ) (was mid is : Told) → OnlyPuts was mid
    → IsCopiedOf From Into shape tables → IsFinished Into Honest batches tables count entries mid is → IsMade From Into Honest shape batches count entries was is
made law From Into Honest shape batches tables count entries was mid is puts copied finished =
    let logs = finished.filled.logs in
    let l : tables.last ≡ shape.last = ap (λ (c : Copied). c.last) copied.is in
    record {
      tables = tables;
      copied = copied;
      finished = finished_before Into Honest batches tables count entries was mid is puts finished;
      answers = λ none key. answers_from law Into copied.entries batches logs.batch shape.last logs.first tables finished.whole l none logs.last (omega (arith, l, logs.above)) logs.has key;
    }
