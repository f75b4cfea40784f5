-- Which reads of a version are promised, and what they give (this project's rule).
use Rattle.std.specs.Prelude.{◌≡◌, ℕ, ◌≤◌, ◌⊎◌, List, map}
use Rattle.lsm_codec.specs.Keys.{UserKey}
use Rattle.lsm_codec.specs.Lists.{Has}
use Rattle.lsm_codec.specs.Entries.{Entry, answer}
use Rattle.lsm_model.specs.Files.{all_entries}
use Rattle.lsm_version.specs.Versions.{Levels, files}
use Rattle.lsm_state.specs.Held.{Held}

-- the sequences of the live snapshots, the oldest one's first
abbrev pub snapshot_sequences : Held → List ℕ
snapshot_sequences h = map (λ (p : ℕ × ℕ). p.1) h.snapshots.taken

-- A read of the version is promised at its last sequence, and at those of the snapshots. What was
-- seen from any other one may have been dropped by a compaction.
abbrev pub IsPromisedAt : Levels → List ℕ → ℕ → Type 0
IsPromisedAt v snapshots seq = (seq ≡ v.last) ⊎ Has snapshots seq

-- Each promised read of the version gives what it gives over all these entries, none of which is
-- later than the version's last sequence.
pub record AnswersAll (v : Levels) (snapshots : List ℕ) (history : List Entry) : Type 0 where
  pub upto : (e : Entry) → Has history e → e.seq ≤ v.last
  pub reads : (k : UserKey) (seq : ℕ) → IsPromisedAt v snapshots seq
      → answer (all_entries (files v)) k seq ≡ answer history k seq
