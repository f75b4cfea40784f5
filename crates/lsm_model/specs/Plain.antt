-- The store as a plain machine: what it holds, and what each of its events makes of that (levels
-- and snapshots of LevelDB's `doc/impl.md`; several compactions at a time are this project's).
use Rattle.std.specs.Prelude.{◌≡◌, ℕ, suc, ◌<◌, ◌≤◌, List, [], ◌∷◌, ◌++◌, ◌⊎◌, ◌==◌, not, map}
use Rattle.std.specs.Prelude.{Bool, false, if◌then◌else◌, ◌↔◌}
use Rattle.std.specs.List.{filter, list_any}
use Rattle.lsm_codec.specs.Lists.{Has}
use Rattle.lsm_codec.specs.Entries.{Entry}
use Rattle.lsm_model.specs.Files.{File, all_entries, Fits}
use Rattle.lsm_model.specs.Kept.{kept_entries}
use Rattle.lsm_model.specs.Streams.{IsMerge, IsCut, NumbersRise}
use Rattle.lsm_model.specs.Jobs.{Job, Changed, Conflicts, IsMove, is_input}
use Rattle.lsm_model.specs.Plans.{Plan, IsClosed, IsJobOf}

-- a live job, with the numbers that were drawn for its outputs
pub record Live : Type 0 where
  pub job : Job
  pub drawn : List ℕ

pub record Plain : Type 0 where
  -- the current version
  pub files : List File
  pub last : ℕ
  -- the next file number, the next snapshot's id, the next ticket
  pub next : ℕ
  pub next_id : ℕ
  pub next_ticket : ℕ
  -- ids and sequences, the oldest snapshot first
  pub snapshots : List (ℕ × ℕ)
  pub live : List Live

-- the least sequence at which reads are still promised: the oldest live snapshot's, or the last
abbrev pub floor_of : ℕ → List (ℕ × ℕ) → ℕ
floor_of last [] = last
floor_of last (p ∷ ps) = p.1

abbrev pub without_snapshot : ℕ → List (ℕ × ℕ) → List (ℕ × ℕ)
without_snapshot id ps = filter (λ p. not (p.0 == id)) ps

abbrev pub without_job : ℕ → List Live → List Live
without_job ticket live = filter (λ a. not (a.job.ticket == ticket)) live

abbrev pub drawing : ℕ → Live → Live
drawing number a = record a { drawn = a.drawn ++ number ∷ [] }

-- the number is booked under the ticket
abbrev pub booking : ℕ → ℕ → List Live → List Live
booking ticket number live = map (λ a. if a.job.ticket == ticket then drawing number a else a) live

-- ---- events

-- the entries come in as one file of level 0, with sequences above the last and under a number that
-- was free
pub record Ingests (s : Plain) (es : List Entry) (t : Plain) : Type 0 where
  pub file : File
  pub files : List File
  pub last : ℕ
  pub next : ℕ
  pub is : t ≡ record s { files = files; last = last; next = next }
  pub level : file.level ≡ 0
  pub fits : Fits file
  pub entries : file.entries ≡ es
  pub above : (e : Entry) → Has es e → s.last < e.seq
  pub upto : (e : Entry) → Has es e → e.seq ≤ last
  pub grows : s.last ≤ last
  pub drawn : s.next ≤ file.number
  pub passed : file.number < next
  pub from : (F : File) → Has files F → (file ≡ F) ⊎ Has s.files F
  pub stays : (F : File) → Has s.files F → Has files F
  pub added : Has files file

abbrev pub TakesSnapshot : Plain → Plain → Type 0
TakesSnapshot s t = t ≡ record s {
  snapshots = s.snapshots ++ (s.next_id, s.last)
      ∷ [];
  next_id = suc s.next_id;
}

abbrev pub Releases : Plain → ℕ → Plain → Type 0
Releases s id t = t ≡ record s { snapshots = without_snapshot id s.snapshots }

-- The job is that of a plan; its inputs are files of the version, at its level and the next, and it
-- conflicts with no live one. Under the premise the plan is the closed one from some starting
-- files.
pub record Reserves (Honest : Type 0) (s : Plain) (plan : Plan) (job : Job) (t : Plain)
    : Type 0 where
  pub is : t ≡ record s {
    live = s.live ++ record { job = job; drawn = [] }
        ∷ [];
    next_ticket = suc s.next_ticket;
  }
  pub is_job : IsJobOf s.files plan job
  pub inputs : (F : File) → Has job.inputs F → Has s.files F
  pub levels : (F : File) → Has job.inputs F → (F.level ≡ job.level) ⊎ (F.level ≡ suc job.level)
  pub floor : job.floor ≡ floor_of s.last s.snapshots
  pub ticket : job.ticket ≡ s.next_ticket
  pub clear : (a : Live) → Has s.live a → Conflicts job a.job → ⊥
  pub closed : Honest → (starts : List File) × IsClosed s.files (Has starts) plan

abbrev pub Cancels : Plain → ℕ → Plain → Type 0
Cancels s ticket t = t ≡ record s { live = without_job ticket s.live }

-- the next number is booked under the ticket
abbrev pub Draws : Plain → ℕ → Plain → Type 0
Draws s ticket t = t ≡ record s { live = booking ticket s.next s.live; next = suc s.next }

-- the outputs are the kept entries of the job's inputs, merged and cut
pub record IsMerged (job : Job) (outs : List File) : Type 0 where
  pub merged : List Entry
  pub merges : IsMerge merged (all_entries job.inputs)
  pub cut : IsCut (suc job.level) (kept_entries merged job.floor job.ranges) outs

-- what is known of a result without the premise: outputs under rising numbers that the job drew, or
-- its one input
abbrev pub IsBooked : Live → List File → Type 0
IsBooked a outs = (NumbersRise outs × ((F : File) → Has outs F → Has a.drawn F.number))
    ⊎ IsMove a.job outs

-- what a finished job hands in under the premise
abbrev pub IsResult : Job → List File → Type 0
IsResult job outs = IsMerged job outs ⊎ IsMove job outs

-- The inputs of the live job of this ticket make room for its outputs, and the job goes out.
pub record Installs (Honest : Type 0) (s : Plain) (ticket : ℕ) (t : Plain) : Type 0 where
  pub one : Live
  pub was_live : Has s.live one
  pub its : one.job.ticket ≡ ticket
  pub outs : List File
  pub booked : IsBooked one outs
  pub result : Honest → IsResult one.job outs
  pub files : List File
  pub is : t ≡ record s { files = files; live = without_job ticket s.live }
  pub changed : Changed s.files one.job outs files

-- a file of these by its number
abbrev pub is_among : List File → File → Bool
is_among gone F = list_any (λ G. G.number == F.number) gone

-- The newest files of level 0 become one, with all their entries, under a number that was free
-- (this project's rule). No live job has one of them as an input.
pub record Gathers (Honest : Type 0) (s t : Plain) : Type 0 where
  pub gone : List File
  pub file : File
  pub files : List File
  pub next : ℕ
  pub is : t ≡ record s { files = files; next = next }
  pub were : (F : File) → Has gone F → Has s.files F × (F.level ≡ 0)
  pub newest : (F G : File) → Has s.files F → F.level ≡ 0 → is_among gone F ≡ false → Has gone G
      → F.number < G.number
  pub unused : (a : Live) (F : File) → Has s.live a → Has gone F → is_input a.job F ≡ false
  pub level : file.level ≡ 0
  pub fits : Fits file
  pub entries : Honest → (e : Entry) → Has file.entries e ↔ Has (all_entries gone) e
  pub drawn : s.next ≤ file.number
  pub passed : file.number < next
  pub from : (F : File) → Has files F → (file ≡ F) ⊎ (Has s.files F × (is_among gone F ≡ false))
  pub stays : (F : File) → Has s.files F → is_among gone F ≡ false → Has files F
  pub added : Has files file

-- a refused call may spend file numbers
abbrev pub Spends : Plain → Plain → Type 0
Spends s t = (n : ℕ) × (s.next ≤ n) × (t ≡ record s { next = n })

-- ---- what is promised of reads

-- a sequence at which reads are still promised
abbrev pub IsReadable : Plain → ℕ → Type 0
IsReadable s q = (q ≡ s.last) ⊎ ((p : ℕ × ℕ) × Has s.snapshots p × (p.1 ≡ q))

-- ---- a store that was just created

-- no files, no snapshots and no jobs; the manifest has the number 1, so 2 is the next
abbrev pub created : Plain
created = record {
  files = [];
  last = 0;
  next = 2;
  next_id = 1;
  next_ticket = 1;
  snapshots = [];
  live = [];
}
