-- Jobs over tables, and what a finished one hands in (LevelDB's `doc/impl.md`, "Compactions").
use Rattle.std.specs.Prelude.{◌≡◌, ℕ, suc, ◌≤◌, true, false, Bool, List, [], ◌∷◌, ◌++◌, cond}
use Rattle.std.specs.Prelude.{length, map}
use Rattle.lsm_codec.specs.Lists.{Has}
use Rattle.lsm_codec.specs.Keys.{UserKey}
use Rattle.lsm_codec.specs.Entries.{Entry}
use Rattle.lsm_table.specs.Registry.{Table}
use Rattle.lsm_table.specs.HeldTable.{entries_in}
use Rattle.lsm_table.specs.Options.{AreInRange}
use Rattle.lsm_table.specs.TableBuilding.{table_bytes, written_bytes}
use Rattle.lsm_table.specs.declared.table_options.TableOptions.{TableOptions}
use Rattle.lsm_model.specs.Files.{all_entries}
use Rattle.lsm_model.specs.Jobs.{Job}
use Rattle.lsm_model.specs.Kept.{kept_entries}
use Rattle.lsm_model.specs.Plans.{job_from}
use Rattle.lsm_model.specs.Streams.{IsMerge, IsCut, NumbersRise}
use Rattle.lsm_version.specs.Versions.{IsWhole, files_of}
use Rattle.lsm_merge.specs.Cuts.{IsCutBy}

-- a job over tables: those of its level, and those of the next; and the sizes that its outputs are
-- written with
pub record Work : Type 0 where
  pub ticket : ℕ
  pub level : ℕ
  pub upper : List Table
  pub lower : List Table
  pub low : UserKey
  pub high : UserKey
  pub floor : ℕ
  pub ranges : List (UserKey × UserKey)
  pub is_move : Bool
  pub table : TableOptions
  pub target_size : ℕ

-- the job as laws speak of it
abbrev pub job_of : Work → Job
job_of w =
    job_from (record {
      level = w.level;
      upper = files_of w.level w.upper;
      lower = files_of
          (suc w.level) w.lower;
      low = w.low;
      high = w.high;
    }) w.ticket w.floor w.ranges w.is_move

-- a job that is a move has one input, of its own level
abbrev pub MovesOne : Work → Bool → Type 0
MovesOne w true = (t : Table) × (w.upper ≡ t ∷ []) × (w.lower ≡ [])
MovesOne w false = Unit {0}

-- What a job's type keeps: its outputs have a level to go to, and sizes to be written with; over an
-- honest shelf its inputs are tables.
pub record IsWork (honest : Type 0) (w : Work) : Type 0 where
  pub low : w.level ≤ 5
  pub in_range : AreInRange w.table
  pub whole : honest → (t : Table) → Has (w.upper ++ w.lower) t → IsWhole t
  pub moves : MovesOne w w.is_move

-- the image for which the table stands is, byte for byte, what the builder makes of its entries
-- with these sizes
abbrev pub IsBuilt : TableOptions → Table → Type 0
IsBuilt options t = t.image ≡ table_bytes options (entries_in t.image)

-- a finished job: its outputs, and the numbers under which they were put (a move puts none)
pub record Done : Type 0 where
  pub work : Work
  pub outputs : List Table
  pub put : List ℕ

-- each table's number, with the image for which it stands
abbrev pub puts_of : List Table → List (ℕ × List ℕ)
puts_of ts = map (λ t. (t.number, t.image)) ts

-- what a shelf is told to put of a finished job: its outputs one after another, and of a move
-- nothing
abbrev pub puts_by : Done → List (ℕ × List ℕ)
puts_by d = cond d.work.is_move [] (puts_of d.outputs)

-- the entries of the image for which each table stands
abbrev pub contents_of : List Table → List (List Entry)
contents_of ts = map (λ t. entries_in t.image) ts

-- the bytes of the data blocks that are finished when a table has these entries, with their
-- trailers
unfoldable pub finished : TableOptions → List Entry → ℕ
finished options es = length (written_bytes options es)

-- The outputs are the kept entries of the job's inputs, merged and cut.
pub record AreKept (work : Work) (outputs : List Table) : Type 0 where
  pub merged : List Entry
  pub merges : IsMerge merged (all_entries (job_of work).inputs)
  pub cut : NumbersRise (files_of (suc work.level) outputs)
      → IsCut (suc work.level) (kept_entries merged work.floor work.ranges)
      (files_of (suc work.level) outputs)
  -- by the job's sizes
  pub sizes : IsCutBy (finished work.table) work.target_size
      (kept_entries merged work.floor work.ranges) (contents_of outputs)

-- by whether the job is a move
abbrev pub IsMade : Type 0 → Done → Bool → Type 0
IsMade honest d true = (t : Table) × (d.work.upper ≡ t ∷ []) × (d.work.lower ≡ [])
    × (d.outputs ≡ t ∷ []) × (d.put ≡ [])
IsMade honest d false = (map (λ t. t.number) d.outputs ≡ d.put)
    × (honest → AreKept d.work d.outputs)

-- What a finished job's type keeps: a merge puts tables, which over an honest shelf are the kept
-- entries of its inputs; a move hands its one input in.
pub record IsFinished (honest : Type 0) (d : Done) : Type 0 where
  pub low : d.work.level ≤ 5
  pub whole : honest → (t : Table) → Has d.outputs t → IsWhole t
  -- the tables that were put are whole, whatever the shelf is
  pub put_whole : d.work.is_move ≡ false → (t : Table) → Has d.outputs t → IsWhole t
  -- and they are written with the job's sizes
  pub built : d.work.is_move ≡ false → (t : Table) → Has d.outputs t → IsBuilt d.work.table t
  pub made : IsMade honest d d.work.is_move
