-- A small run of the plain machine, from a store that was just created (this project's rule).
use Rattle.std.specs.Prelude.{ℕ, false, List, [], ◌∷◌}
use Rattle.lsm_codec.specs.declared.kind.Kind.TheVariants.{Value}
use Rattle.lsm_codec.specs.Entries.{Entry}
use Rattle.lsm_model.specs.Files.{File}
use Rattle.lsm_model.specs.Jobs.{Job}
use Rattle.lsm_model.specs.Plain.{Plain}
use Rattle.lsm_model.specs.Plans.{Plan}
use Rattle.lsm_model.specs.Runs.{Event, Ingest, Snapshot, Release, Reserve, Draw, Install}

-- every entry is of the empty user key
abbrev pub entry : ℕ → Entry
entry seq = record { user = []; seq = seq; kind = Value; value = [] }

abbrev pub file : (level number : ℕ) → List Entry → File
file level number es = record { level = level; number = number; low = []; high = []; entries = es }

-- of two files of level 0, one of which came in behind a snapshot
abbrev pub plan : Plan
plan = record {
  level = 0;
  upper = file 0 3 (entry 2 ∷ []) ∷ file 0 2 (entry 1 ∷ []) ∷ [];
  lower = [];
  low = [];
  high = [];
}

abbrev pub job : Job
job = record {
  ticket = 1;
  level = 0;
  inputs = plan.upper;
  low = [];
  high = [];
  floor = 1;
  ranges = [];
  is_move = false;
}

-- Two batches come in, with a snapshot between them. Their files are reserved; a third batch comes
-- in before the merge is installed; then the snapshot is given up.
abbrev pub events : List Event
events =
    Ingest (entry 1 ∷ [])
    ∷ Snapshot
    ∷ Ingest (entry 2 ∷ [])
    ∷ Reserve plan job
    ∷ Draw 1
    ∷ Ingest (entry 3 ∷ [])
    ∷ Install 1
    ∷ Release 1
    ∷ []

-- what is left: the third batch at level 0, and the outputs of the merge at level 1
abbrev pub left : Plain
left = record {
  files = file 0 5 (entry 3 ∷ []) ∷ file 1 4 (entry 2 ∷ entry 1 ∷ []) ∷ [];
  last = 3;
  next = 6;
  next_id = 2;
  next_ticket = 2;
  snapshots = [];
  live = [];
}
