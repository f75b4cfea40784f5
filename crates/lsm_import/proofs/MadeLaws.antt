-- What proofs of the crates above take of a copy that is made step by step.
use Rattle.std.proofs.Common.{◌≡◌, ℕ, suc, ◌+◌, ◌-◌, ◌<◌, ◌≤◌, List, [], ◌∷◌, ◌++◌, length, Option}
use Rattle.std.proofs.Common.{None, refl, ap, ◌∙◌, arith}
use Rattle.lsm_codec.specs.Keys.{UserKey}
use Rattle.lsm_codec.specs.Entries.{Entry, answer}
use Rattle.lsm_shelf.specs.Told.{Becomes, Told}
use Rattle.lsm_batch.specs.Batches.{entries_from}
use Rattle.lsm_batch.specs.LastWrites.{KeepsLast, last_write}
use Rattle.lsm_batch.specs.declared.write.Write.{Write}
use Rattle.lsm_wal.specs.WriteLog.{writes_of}
use Rattle.lsm_wal.specs.declared.write_batch.WriteBatch.{WriteBatch}
use Rattle.lsm_import.specs.Answers.{NoneAbove, source_answer, value_over}
use Rattle.lsm_import.specs.Copied.{HasLogs, HasWrites}
use Rattle.lsm_import.specs.Copies.{OnlyPuts}
use Rattle.lsm_import.specs.declared.copied.Copied.{Copied}

pub puts_none : (a : Told) → OnlyPuts a a
puts_none a = record { place = refl; gone = refl; starts = refl; written = refl }

-- how many writes of logs came in
writes_are : (Into : ℕ → List ℕ → Type 0) (first : ℕ) (batch : List Write) (old new : Copied)
    → old.writes ≡ 0 → HasWrites Into first batch old new → new.writes ≡ length batch
writes_are Into first [] old new none has = ap (λ (c : Copied). c.writes) has ∙ none
writes_are Into first (w ∷ ws) old new none has = ap (λ (c : Copied). c.writes) has.2

pub writes_came : (Into : ℕ → List ℕ → Type 0) (batches : List WriteBatch) (old new : Copied)
    → old.writes ≡ 0 → (h : HasLogs Into batches old new) → new.writes ≡ length h.batch
writes_came Into batches old new none h = writes_are Into h.first h.batch old new none h.has

-- the law of what a copy answers
abbrev pub Law : Type 0
Law = (es : List Entry) (batches : List WriteBatch) (batch : List Write) (last first s : ℕ)
    → NoneAbove last es → KeepsLast (writes_of batches) batch → last < first
    → first + length batch ≤ suc s
    → (key : UserKey) → answer (entries_from first batch ++ es) key s
    ≡ value_over (last_write key (writes_of batches)) (answer es key last)

-- what it answers at its last sequence
pub answers_from : Law → (Into : ℕ → List ℕ → Type 0) (es : List Entry) (batches : List WriteBatch)
    (batch : List Write) (last first : ℕ) (old new : Copied) → old.last ≡ last → NoneAbove last es
    → KeepsLast (writes_of batches) batch → last < first → HasWrites Into first batch old new
    → (key : UserKey) → answer (entries_from first batch ++ es) key new.last
    ≡ source_answer es last batches key
answers_from law Into es batches [] last first old new l none kept above has key =
    let at : new.last ≡ last = ap (λ (c : Copied). c.last) has ∙ l in
    let nothing : None ≡ last_write key (writes_of batches) = kept.last key in
    ap (answer es key) at ∙ ap (λ (o : Option Write). value_over o (answer es key last)) nothing
answers_from law Into es batches (w ∷ ws) last first old new l none kept above has key =
    let at : new.last ≡ first + suc (length ws) - 1 = ap (λ (c : Copied). c.last) has.2 in
    law es batches (w ∷ ws) last first new.last none kept above (omega (arith, at)) key

pub puts_then : (a b c : Told) → OnlyPuts a b → OnlyPuts b c → OnlyPuts a c
puts_then a b c p q = record {
  place = q.place ∙ p.place;
  gone = q.gone ∙ p.gone;
  starts = q.starts ∙ p.starts;
  written = q.written ∙ p.written;
}

pub only_puts : (a b : Told) → Becomes a b → OnlyPuts a b
only_puts a b h = record { place = h.place; gone = h.gone; starts = h.starts; written = h.written }
