-- What is printed of a load that ended early: this project's rule. The line is the first one that
-- is not in.
use Rattle.std.specs.Prelude.{ℕ, ◌-◌, ◌==◌, cond, List, [], ◌∷◌, ◌++◌, codes, decimal, Option, None}
use Rattle.std.specs.Prelude.{Some}
use Rattle.lsm_lines.specs.declared.write_line_fault.WriteLineFault.{WriteLineFault}
use Rattle.lsm_lines.specs.declared.write_line_fault.WriteLineFault.TheVariants as lines
use Rattle.lsm_opening.specs.WriterFault as writer
use Rattle.lsm_opening.specs.CompactFault as compact
use Rattle.lsm_opening.specs.declared.faults.writer_fault.WriterFault.TheVariants as writer_faults
use Rattle.lsm_opening.specs.declared.faults.compact_fault.CompactFault.TheVariants as compact_faults
use Rattle.lsm_bulk_load.specs.declared.load_fault.LoadFault.{LoadFault}
use Rattle.lsm_bulk_load.specs.declared.load_fault.LoadFault.TheVariants as loads
use Rattle.lsm_cmd_load.specs.declared.stopped.Stopped.{Stopped}
use Rattle.lsm_cmd_load.specs.declared.stopped.Stopped.TheVariants.{Before, Lines, Sweep, Write}

-- of a line that is no write: `bad line N`
abbrev pub line_text : WriteLineFault → ℕ → Option (List ℕ)
line_text (lines.BadLine place) line = Some (codes "bad line " ++ decimal line)
line_text lines.LongLine line = Some (codes "bad line " ++ decimal line)
line_text lines.LargeWrite line = Some (codes "bad line " ++ decimal line)
line_text lines.NoNewline line = Some (codes "bad line " ++ decimal line)
line_text lines.Read line = writer.fault_text writer_faults.Read
line_text lines.OutOfMemory line = writer.fault_text writer_faults.OutOfMemory

-- what such a line has too much of, or lacks, where contracts say that
abbrev pub line_meaning : WriteLineFault → ℕ → Option (List ℕ)
line_meaning (lines.BadLine place) line = None
line_meaning lines.LongLine line =
    Some (codes "line " ++ (decimal line ++ (codes " has more than 8388608 bytes" ++ (10 ∷ []))))
line_meaning lines.LargeWrite line = None
line_meaning lines.NoNewline line = Some (codes "line " ++ (decimal line
    ++ (codes " has no newline, so that it may be cut; --last-line takes it" ++ (10 ∷ []))))
line_meaning lines.Read line = None
line_meaning lines.OutOfMemory line = None

-- of what kept lines out, or what was due from being compacted
abbrev pub load_text : LoadFault → ℕ → Option (List ℕ)
load_text loads.OutOfMemory line = writer.fault_text writer_faults.OutOfMemory
load_text (loads.Shelf fault) line = writer.fault_text (writer.of_shelf fault)
load_text (loads.Line fault) line = line_text fault line
load_text (loads.Ingest fault) line = writer.fault_text (writer_faults.State fault)
load_text loads.Other line = Some (codes "another batch came in between these")
load_text (loads.Worker fault) line = compact.fault_text (compact_faults.Worker fault)
load_text loads.Due line = Some (codes "something is left to compact")

abbrev pub load_meaning : LoadFault → ℕ → Option (List ℕ)
load_meaning loads.OutOfMemory line = None
load_meaning (loads.Shelf fault) line = None
load_meaning (loads.Line fault) line = line_meaning fault line
load_meaning (loads.Ingest fault) line = None
load_meaning loads.Other line = None
load_meaning (loads.Worker fault) line = None
load_meaning loads.Due line = None

abbrev pub stopped_text : Stopped → Option (List ℕ)
stopped_text (Before fault) = writer.fault_text fault
stopped_text (Lines fault line) = load_text fault line
stopped_text (Sweep fault) = writer.fault_text (writer_faults.State fault)
stopped_text Write = writer.fault_text writer_faults.Write

abbrev pub stopped_meaning : Stopped → Option (List ℕ)
stopped_meaning (Before fault) = None
stopped_meaning (Lines fault line) = load_meaning fault line
stopped_meaning (Sweep fault) = None
stopped_meaning Write = None

-- the number of the last line that is in, where not all are; 0 where none is
abbrev pub last_in : Stopped → Option ℕ
last_in (Before fault) = None
last_in (Lines fault line) = Some (line - 1)
last_in (Sweep fault) = None
last_in Write = None

-- which lines are in: `lines 1 to N are in`, or `no line is in`
abbrev pub came_text : ℕ → List ℕ
came_text last = cond (last == 0) (codes "no line is in" ++ (10 ∷ [])) (codes "lines 1 to "
    ++ (decimal last ++ (codes " are in" ++ (10 ∷ []))))
