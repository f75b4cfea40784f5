-- The law of a store, in two halves: the books, which hold whatever tables read as, and what the
-- entries mean where tables are read as they were written.
use Rattle.std.specs.Prelude.{◌≡◌, ℕ, suc, ◌<◌, ◌≤◌, List, [], ◌∷◌, ◌⊎◌}
use Rattle.lsm_codec.specs.Lists.{Has}
use Rattle.lsm_codec.specs.Entries.{Entry}
use Rattle.lsm_model.specs.Files.{File, all_entries, IsLawful}
use Rattle.lsm_model.specs.Jobs.{Conflicts, FloorHolds, IsOpenIn}
use Rattle.lsm_model.specs.Plain.{Live, Plain}

-- A later snapshot has a greater id, and no lesser sequence.
abbrev pub AreRising : List (ℕ × ℕ) → Type 0
AreRising [] = Unit {0}
AreRising (p ∷ ps) = ((q : ℕ × ℕ) → Has ps q → (p.0 < q.0) × (p.1 ≤ q.1)) × AreRising ps

-- Numbers, tickets, ids, inputs and floors.
pub record Books (s : Plain) : Type 0 where
  -- two files of one number are one file, and the next number is above all of them
  pub numbers : (F G : File) → Has s.files F → Has s.files G → F.number ≡ G.number → F ≡ G
  pub below_next : (F : File) → Has s.files F → F.number < s.next
  -- a drawn number is below the next, no file's, and drawn by one ticket
  pub drawn_below : (a : Live) (n : ℕ) → Has s.live a → Has a.drawn n → n < s.next
  pub drawn_fresh : (a : Live) (n : ℕ) (F : File) → Has s.live a → Has a.drawn n → Has s.files F
      → F.number ≡ n → ⊥
  pub drawn_apart : (a b : Live) (n : ℕ) → Has s.live a → Has s.live b → Has a.drawn n
      → Has b.drawn n → a.job.ticket ≡ b.job.ticket
  -- the inputs of a live job are files of the version, at its level and the next
  pub inputs : (a : Live) (F : File) → Has s.live a → Has a.job.inputs F → Has s.files F
  pub levels : (a : Live) (F : File) → Has s.live a → Has a.job.inputs F
      → (F.level ≡ a.job.level) ⊎ (F.level ≡ suc a.job.level)
  -- live jobs have different tickets below the next one, and no two conflict
  pub tickets : (a : Live) → Has s.live a → a.job.ticket < s.next_ticket
  pub one_each : (a b : Live) → Has s.live a → Has s.live b → a.job.ticket ≡ b.job.ticket → a ≡ b
  pub clear : (a b : Live) → Has s.live a → Has s.live b → (a.job.ticket ≡ b.job.ticket → ⊥)
      → Conflicts a.job b.job → ⊥
  pub floors : (a : Live) → Has s.live a → FloorHolds s.last s.snapshots a.job
  -- snapshots rise, up to the last sequence and below the next id
  pub rising : AreRising s.snapshots
  pub ids : (p : ℕ × ℕ) → Has s.snapshots p → p.0 < s.next_id
  pub snapshots : (p : ℕ × ℕ) → Has s.snapshots p → p.1 ≤ s.last

pub record Meaning (s : Plain) : Type 0 where
  pub lawful : IsLawful s.files
  pub reached : (e : Entry) → Has (all_entries s.files) e → e.seq ≤ s.last
  pub are_open : (a : Live) → Has s.live a → IsOpenIn s.files a.job

-- `Honest` is the premise: tables are read as they were written.
pub record Law (Honest : Type 0) (s : Plain) : Type 0 where
  pub books : Books s
  pub meaning : Honest → Meaning s
