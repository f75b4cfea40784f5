-- What the commands answer, and what their faults say.
use Rattle.std.specs.Prelude.{◌≡◌, ◌≢◌, ℕ, ◌^◌, ◌<◌, ◌≤◌, ◌⊎◌, ⊤, List, [], ◌∷◌, ◌++◌, length, take}
use Rattle.std.specs.Prelude.{get_or, Err, Option, IfSome}
use Rattle.std.specs.Io.KnownBytes.{Appends, Keeps}
use Rattle.lsm_codec.specs.Entries.{Entry}
use Rattle.lsm_manifest.specs.declared.edit_fault.EditFault.{EditFault}
use Rattle.lsm_manifest.specs.Log.{IsLog}
use Rattle.lsm_manifest.specs.LogReading.{log_at}
use Rattle.lsm_manifest.specs.Manifest.{AreEdits, IsManifest}
use Rattle.lsm_manifest.specs.EditReading.{edit_at}
use Rattle.lsm_manifest.specs.EditFit.{Change}
use Rattle.lsm_text.specs.ManifestPrinting.{manifest_text}
use Rattle.lsm_table.specs.Table.{IsTable}
use Rattle.lsm_table.specs.TableReading.{table_at}
use Rattle.lsm_requests.specs.declared.conversion.Conversion.{Conversion}
use Rattle.lsm_requests.specs.declared.conversion.Conversion.TheVariants.{MakeTable, Dump, Manifest}
use Rattle.lsm_text.specs.declared.fault.Fault.{Fault}
use Rattle.lsm_text.specs.declared.fault.Fault.TheVariants.{Read, Write, BadLine, OutOfMemory}
use Rattle.lsm_text.specs.declared.fault.Fault.TheVariants.{Table, TooLarge, Log, Edit}
use Rattle.lsm_table.specs.declared.table_options.TableOptions.{TableOptions}
use Rattle.lsm_table.specs.TableBuilding.{PassesLimit, index_block, groups_by, table_bytes}
use Rattle.lsm_text.specs.EntryReading.{BeginsWith}
use Rattle.lsm_text.specs.EntryList.{IsEntryList, IsFirstBadLine}
use Rattle.lsm_text.specs.EntryPrinting.{entry_list}
use Rattle.lsm_text.specs.Printing.{Begins}

-- The options of the tables that `mktable` makes.
abbrev pub usual : TableOptions
usual = record { block_size = 4096; restart_interval = 16 }

-- what a command writes on standard output for what it reads on standard input
abbrev pub Answers : Conversion → List ℕ → List ℕ → Type 0
Answers MakeTable input output =
    (entries : List Entry) × IsEntryList input entries × IsTable output entries
    × (output ≡ table_bytes usual entries)
Answers Dump input output = (entries : List Entry) × IsTable input entries
    × (output ≡ entry_list entries)
Answers Manifest input output =
    (edits : List Change) × (rest : ℕ) × IsManifest input edits rest
    × (output ≡ manifest_text edits rest)

-- The input is a log, and of its records the one at this index is the first that is no edit.
pub record HasBadEdit (input : List ℕ) (fault : EditFault) : Type 0 where
  pub records : List (List ℕ)
  pub rest : ℕ
  pub index : ℕ
  pub edits : List Change
  pub logged : IsLog input records rest
  pub within : index < length records
  pub good : AreEdits (take index records) edits
  pub bad : edit_at (get_or records index []) ≡ Err fault

-- The input begins with entries with the last of which a block would pass 2 ^ 32 - 1 bytes, or with
-- entries whose index block would.
abbrev pub IsTooLarge : List ℕ → Type 0
IsTooLarge input =
    ((entries : List Entry) × (e : Entry) × BeginsWith input (entries ++ e ∷ [])
    × PassesLimit usual entries e)
    ⊎ ((entries : List Entry) × BeginsWith input entries
    × (2 ^ 32 ≤ length (index_block usual.restart_interval (groups_by usual entries))))

-- What a fault says of the input. A failed read, and want of memory, say nothing of it; a write
-- fails only where there was an answer to write.
abbrev pub Explains : Conversion → List ℕ → Fault → Type 0
Explains name input Read = ⊤
Explains name input Write = (output : List ℕ) × Answers name input output
Explains name input OutOfMemory = ⊤
Explains MakeTable input (BadLine i) = IsFirstBadLine input i
Explains MakeTable input (Table fault) = ⊥
Explains MakeTable input TooLarge = IsTooLarge input
Explains MakeTable input (Log fault) = ⊥
Explains MakeTable input (Edit fault) = ⊥
Explains Dump input (BadLine i) = ⊥
Explains Dump input (Log fault) = ⊥
Explains Dump input (Edit fault) = ⊥
Explains Manifest input (BadLine i) = ⊥
Explains Manifest input (Table fault) = ⊥
Explains Manifest input TooLarge = ⊥
Explains Manifest input (Log fault) = log_at input ≡ Err fault
Explains Manifest input (Edit fault) = HasBadEdit input fault
Explains Dump input TooLarge = ⊥
Explains Dump input (Table fault) = table_at input ≡ Err fault

-- A beginning of what the command answers was written, and nothing else.
abbrev pub BeginsAnswer : Conversion → List ℕ → Option (List ℕ) → Option (List ℕ) → Type 0
BeginsAnswer name input old new =
    (output : List ℕ) × Answers name input output × Begins old new output

-- ---- what is answered

-- what the input is converted to was written, all of it
abbrev pub IsConverted : Conversion → (input old new : Option (List ℕ)) → Type 0
IsConverted conversion input old new =
    IfSome input (λ text. (output : List ℕ) × Answers conversion text output
    × Appends old new output)

-- A fault explains the input. A failed write leaves a beginning of the answer, any other fault
-- nothing.
pub record IsNotConverted (conversion : Conversion) (input : Option (List ℕ)) (fault : Fault)
    (old new : Option (List ℕ)) : Type 0 where
  pub explained : IfSome input (λ text. Explains conversion text fault)
  pub kept : fault ≢ Write → Keeps old new
  pub begun : fault ≡ Write → IfSome input (λ text. BeginsAnswer conversion text old new)

-- the file could not be opened, and nothing was written; or the conversion is refused
abbrev pub IsUnconverted : Conversion → Option (List ℕ) → (old new : Option (List ℕ)) → Type 0
IsUnconverted conversion text old new =
    Keeps old new ⊎ ((fault : Fault) × IsNotConverted conversion text fault old new)
