-- What the words of a command line ask for, by what clap's grammar finds in them: this project's
-- rule.
use Rattle.std.specs.Prelude.{◌≡◌, ◌≢◌, ℕ, ◌+◌, ◌≤◌, ◌⊎◌, ⊤, Bool, true, false, if◌then◌else◌, List}
use Rattle.std.specs.Prelude.{[], ◌∷◌, ◌||◌, ◌&&◌, codes, Option, Some, None, is_some, option_map}
use Rattle.std.specs.Option.{option_map_or, option_or}
use Rattle.std.specs.Str.{bytes_eq}
use Rattle.clap.specs.Words.{IsAmong, Kinds, Row, Text, fault_of, first_of, found_of, rows_of}
use Rattle.clap.specs.Words.{subcommand_of}
use Rattle.clap.specs.declared.error.ErrorKind.{ErrorKind}
use Rattle.clap.specs.declared.error.ErrorKind.TheVariants as kind
use Rattle.clap.specs.declared.parser.ArgMatches.{ArgMatches}
use Rattle.lsm_batch.specs.declared.write.Write.{Write}
use Rattle.lsm_grammar.specs.BenchmarkList.{AreBenchmarks}
use Rattle.lsm_grammar.specs.Grammar.{lsm}
use Rattle.lsm_text.specs.Numbers.{IsNumberWord}
use Rattle.lsm_text.specs.Spelling.{IsWord}
use Rattle.lsm_requests.specs.declared.bench_options.BenchOptions.{BenchOptions}
use Rattle.lsm_requests.specs.declared.benchmark.Benchmark.{Benchmark}
use Rattle.lsm_grammar.specs.declared.command_line.CommandLine.{CommandLine}
use Rattle.lsm_grammar.specs.declared.command_line.CommandLine.TheVariants.{Run, Help, Bad}
use Rattle.lsm_grammar.specs.declared.command_name.CommandName.{CommandName}
use Rattle.lsm_grammar.specs.declared.command_name.CommandName.TheVariants as name
use Rattle.lsm_requests.specs.declared.conversion.Conversion.{Conversion}
use Rattle.lsm_requests.specs.declared.conversion.Conversion.TheVariants as conversion
use Rattle.lsm_requests.specs.declared.directory_command.DirectoryCommand.{DirectoryCommand}
use Rattle.lsm_requests.specs.declared.directory_command.DirectoryCommand.TheVariants as look
use Rattle.lsm_text.specs.declared.form.Form.{Form}
use Rattle.lsm_text.specs.declared.form.Form.TheVariants.{Hex, Text as AsText}
use Rattle.lsm_requests.specs.declared.get_output.GetOutput.{GetOutput}
use Rattle.lsm_requests.specs.declared.get_output.GetOutput.TheVariants.{Line, Raw, Nothing}
use Rattle.lsm_requests.specs.declared.ingest_options.IngestOptions.{IngestOptions}
use Rattle.lsm_requests.specs.declared.input.Input.{Input}
use Rattle.lsm_requests.specs.declared.input.Input.TheVariants.{Standard, File}
use Rattle.lsm_requests.specs.declared.compact_range.CompactRange.{CompactRange}
use Rattle.lsm_requests.specs.declared.key_bounds.KeyBounds.{KeyBounds}
use Rattle.lsm_requests.specs.declared.levels_output.LevelsOutput.{LevelsOutput}
use Rattle.lsm_requests.specs.declared.levels_output.LevelsOutput.TheVariants as levels_output
use Rattle.lsm_requests.specs.declared.load_options.LoadOptions.{LoadOptions}
use Rattle.lsm_grammar.specs.declared.manner.Manner.{Manner}
use Rattle.lsm_grammar.specs.declared.request.Request.{Request}
use Rattle.lsm_grammar.specs.declared.request.Request.TheVariants.{Convert, Look, Levels}
use Rattle.lsm_grammar.specs.declared.request.Request.TheVariants.{Write as WriteFolder, Load, Compact}
use Rattle.lsm_grammar.specs.declared.request.Request.TheVariants.{Import, Recover, Repair}
use Rattle.lsm_grammar.specs.declared.request.Request.TheVariants.{Script, Shell, Bench}
use Rattle.lsm_requests.specs.declared.scan_options.ScanOptions.{ScanOptions}
use Rattle.lsm_requests.specs.declared.scan_output.ScanOutput.{ScanOutput}
use Rattle.lsm_requests.specs.declared.scan_output.ScanOutput.TheVariants.{Pairs, Keys, Json, Count}
use Rattle.lsm_grammar.specs.declared.writing_command.WritingCommand.{WritingCommand}
use Rattle.lsm_grammar.specs.declared.writing_command.WritingCommand.TheVariants.{Ingest, WriteKey}
use Rattle.lsm_grammar.specs.declared.writing_command.WritingCommand.TheVariants.{Clean}

-- ---- what clap finds

-- what is wrong with the words, as kinds of clap's errors (`fault_of`): nothing where they are of
-- the grammar
unfoldable pub faults_in : List Text → Kinds
faults_in words = fault_of lsm words

-- the name of the command that the words name, and the rows of its arguments (`subcommand_of`)
unfoldable pub found_in : List Text → Option (Text × List Row)
found_in words = subcommand_of lsm words

-- the rows of a command's matches
abbrev pub rows_in : ArgMatches → List Row
rows_in m = rows_of (found_of m)

-- the word of an argument of this name, or of an option its value (`get_str`)
unfoldable pub word_in : Text → List Row → Option Text
word_in name rows = first_of name rows

-- an option without a value is there
abbrev pub is_set : Text → List Row → Bool
is_set name rows = option_map_or (λ word. bytes_eq word (codes "true")) (word_in name rows) false

-- the form of keys and values: text where `--text` is there
abbrev pub form_in : List Row → Form
form_in rows = if is_set (codes "text") rows then AsText else Hex

-- ---- which command it is

unfoldable pub named_converting : Text → Option CommandName
named_converting word =
    if bytes_eq word (codes "mktable") then Some name.MakeTable
    else if bytes_eq word (codes "dump") then Some name.Dump
    else if bytes_eq word (codes "manifest") then Some name.Manifest
    else None

unfoldable pub named_reading : Text → Option CommandName
named_reading word =
    if bytes_eq word (codes "check") then Some name.Check
    else if bytes_eq word (codes "list") then Some name.List
    else if bytes_eq word (codes "levels") then Some name.Levels
    else if bytes_eq word (codes "get") then Some name.Get
    else if bytes_eq word (codes "scan") then Some name.Scan
    else None

unfoldable pub named_writing : Text → Option CommandName
named_writing word =
    if bytes_eq word (codes "ingest") then Some name.Ingest
    else if bytes_eq word (codes "put") then Some name.Put
    else if bytes_eq word (codes "delete") then Some name.Delete
    else if bytes_eq word (codes "load") then Some name.Load
    else if bytes_eq word (codes "import") then Some name.Import
    else if bytes_eq word (codes "recover") then Some name.Recover
    else if bytes_eq word (codes "repair") then Some name.Repair
    else if bytes_eq word (codes "compact") then Some name.Compact
    else if bytes_eq word (codes "clean") then Some name.Clean
    else None

unfoldable pub named_otherwise : Text → Option CommandName
named_otherwise word =
    if bytes_eq word (codes "script") then Some name.Script
    else if bytes_eq word (codes "shell") then Some name.Shell
    else if bytes_eq word (codes "bench") then Some name.Bench
    else if bytes_eq word (codes "help") then Some name.Help
    else None

unfoldable pub named : Text → Option CommandName
named word =
    option_or (option_or (option_or (named_converting word) (named_reading word))
    (named_writing word))
    (named_otherwise word)

-- the word that names a command
abbrev pub word_of : CommandName → Text
word_of name.MakeTable = codes "mktable"
word_of name.Dump = codes "dump"
word_of name.Manifest = codes "manifest"
word_of name.Script = codes "script"
word_of name.Check = codes "check"
word_of name.List = codes "list"
word_of name.Levels = codes "levels"
word_of name.Get = codes "get"
word_of name.Scan = codes "scan"
word_of name.Ingest = codes "ingest"
word_of name.Put = codes "put"
word_of name.Delete = codes "delete"
word_of name.Load = codes "load"
word_of name.Import = codes "import"
word_of name.Recover = codes "recover"
word_of name.Repair = codes "repair"
word_of name.Compact = codes "compact"
word_of name.Clean = codes "clean"
word_of name.Shell = codes "shell"
word_of name.Bench = codes "bench"
word_of name.Help = codes "help"

abbrev pub name_of_conversion : Conversion → CommandName
name_of_conversion conversion.MakeTable = name.MakeTable
name_of_conversion conversion.Dump = name.Dump
name_of_conversion conversion.Manifest = name.Manifest

abbrev pub name_of_look : DirectoryCommand → CommandName
name_of_look (look.Check workers) = name.Check
name_of_look look.List = name.List
name_of_look (look.Get key output) = name.Get
name_of_look (look.Scan options) = name.Scan

-- of a key that gets this value, or is deleted
abbrev pub name_of_value : Option (List ℕ) → CommandName
name_of_value None = name.Delete
name_of_value (Some value) = name.Put

abbrev pub name_of_write : WritingCommand → CommandName
name_of_write (Ingest input options) = name.Ingest
name_of_write (WriteKey w options) = name_of_value w.value
name_of_write (Clean options) = name.Clean

abbrev pub name_of : Request → CommandName
name_of (Convert conversion input) = name_of_conversion conversion
name_of (Look line) = name_of_look line.command
name_of (Levels line) = name.Levels
name_of (WriteFolder line) = name_of_write line.command
name_of (Load line) = name.Load
name_of (Import line) = name.Import
name_of (Recover line) = name.Recover
name_of (Repair path) = name.Repair
name_of (Compact line) = name.Compact
name_of (Script input) = name.Script
name_of (Shell line) = name.Shell
name_of (Bench line) = name.Bench

-- ---- what its words say

-- `-` is standard input, and any other word the path of a file
abbrev pub IsInput : Option Text → Input → Type 0
IsInput None input = ⊥
IsInput (Some word) Standard = word ≡ codes "-"
IsInput (Some word) (File path) = (word ≢ codes "-") × (path.now ≡ word)

-- the word spells these bytes in this form
abbrev pub IsSpelled : Form → Option Text → List ℕ → Type 0
IsSpelled form None bytes = ⊥
IsSpelled form (Some word) bytes = IsWord form word bytes

-- the word of an option spells a key, and there is a key only where there is the option
abbrev pub IsBound : Form → Option Text → Option (List ℕ) → Type 0
IsBound form None None = ⊤
IsBound form None (Some key) = ⊥
IsBound form (Some word) None = ⊥
IsBound form (Some word) (Some key) = IsWord form word key

abbrev pub AreBounds : List Row → KeyBounds → Type 0
AreBounds rows bounds =
    IsBound (form_in rows) (word_in (codes "from") rows) bounds.from
    × IsBound (form_in rows) (word_in (codes "to") rows) bounds.to
    × IsBound (form_in rows) (word_in (codes "prefix") rows) bounds.prefix

abbrev pub IsWithin : Form → Option Text → Option Text → CompactRange → Type 0
IsWithin form from to range = IsBound form from range.from × IsBound form to range.to

-- `--all` or a bound asks for a range of keys
abbrev pub asks_range : List Row → Bool
asks_range rows = is_set (codes "all") rows || is_some (word_in (codes "from") rows)
    || is_some (word_in (codes "to") rows)

-- the range that is asked for
abbrev pub IsRange : List Row → Option CompactRange → Type 0
IsRange rows None = asks_range rows ≡ false
IsRange rows (Some range) = (asks_range rows ≡ true)
    × IsWithin (form_in rows) (word_in (codes "from") rows) (word_in (codes "to") rows) range

-- the word of an option writes a number below 2^64, and there is a number only where there is the
-- option
abbrev pub IsLimit : Option Text → Option ℕ → Type 0
IsLimit None None = ⊤
IsLimit None (Some n) = ⊥
IsLimit (Some word) None = ⊥
IsLimit (Some word) (Some n) = IsNumberWord 18446744073709551615 word n

-- `--exists` rules over `--raw`
abbrev pub get_output_in : List Row → GetOutput
get_output_in rows = if is_set (codes "exists") rows then Nothing else if is_set (codes "raw") rows
    then Raw else Line

-- `--count` rules over `--json`, and that over `--keys`
abbrev pub scan_output_in : List Row → ScanOutput
scan_output_in rows =
    if is_set (codes "count") rows then Count
    else if is_set (codes "json") rows then Json
    else if is_set (codes "keys") rows then Keys
    else Pairs

-- of a load `--json` and `--text` exclude one another
abbrev pub json_in : List Row → Option Bool
json_in rows =
    if is_set (codes "json") rows && is_set (codes "text") rows then None
    else Some (is_set (codes "json") rows)

-- logs or compressed tables are seen too
abbrev pub sees_more : List Row → Bool
sees_more rows = is_set (codes "logs") rows || is_set (codes "inflate") rows

-- `--quick` excludes `--logs` and `--inflate`
abbrev pub quick_in : List Row → Option Bool
quick_in rows =
    if is_set (codes "quick") rows && sees_more rows then None
    else Some (is_set (codes "quick") rows)

-- `--files` and `--svg` exclude one another
abbrev pub levels_output_in : List Row → Option LevelsOutput
levels_output_in rows =
    if is_set (codes "svg") rows then (if is_set (codes "files") rows then None
    else Some levels_output.Svg)
    else if is_set (codes "files") rows then Some levels_output.Files
    else Some levels_output.Levels

-- so many workers as one digit (48 is `0`), 1 to 8
pub record IsWorkersWord (word : List ℕ) (workers : ℕ) : Type 0 where
  pub some : 1 ≤ workers
  pub few : workers ≤ 8
  pub digit : word ≡ (48 + workers) ∷ []

abbrev pub AreWorkers : Option Text → ℕ → Type 0
AreWorkers None workers = ⊥
AreWorkers (Some word) workers = IsWorkersWord word workers

-- the word writes a number from `least` to `most`
abbrev pub IsNumberIn : ℕ → ℕ → Option Text → ℕ → Type 0
IsNumberIn least most None n = ⊥
IsNumberIn least most (Some word) n = IsNumberWord most word n × (least ≤ n)

-- the word writes the number of a line, from 1 and below 2^64
abbrev pub IsLineNumber : Option Text → ℕ → Type 0
IsLineNumber = IsNumberIn 1 18446744073709551615

-- the word of an option writes a number from 1 to 16, and there is a number only where there is the
-- option
abbrev pub AreThreads : Option Text → Option ℕ → Type 0
AreThreads None None = ⊤
AreThreads None (Some n) = ⊥
AreThreads (Some word) None = ⊥
AreThreads (Some word) (Some n) = IsNumberIn 1 16 (Some word) n

abbrev pub AreScanOptions : List Row → ScanOptions → Type 0
AreScanOptions rows options =
    AreBounds rows options.bounds × IsLimit (word_in (codes "limit") rows) options.limit
    × (options.output ≡ scan_output_in rows)

abbrev pub IsLook : List Row → DirectoryCommand → Type 0
IsLook rows (look.Check workers) = AreThreads (word_in (codes "workers") rows) workers
IsLook rows look.List = ⊤
IsLook rows (look.Get key output) =
    IsSpelled (form_in rows) (word_in (codes "KEY") rows) key × (output ≡ get_output_in rows)
IsLook rows (look.Scan options) = AreScanOptions rows options

abbrev pub AreIngestOptions : List Row → IngestOptions → Type 0
AreIngestOptions rows options =
    (options.form ≡ form_in rows) × (options.begins ≡ is_set (codes "begin") rows)
    × (options.beside_log ≡ is_set (codes "beside-log") rows)
    × (options.quick ≡ is_set (codes "quick") rows)

abbrev pub AreLoadOptions : List Row → LoadOptions → Type 0
AreLoadOptions rows options =
    AreIngestOptions rows options.ingest
    × AreWorkers (word_in (codes "workers") rows) options.workers
    × IsLineNumber (word_in (codes "from-line") rows) options.from_line
    × (options.last_line ≡ is_set (codes "last-line") rows)
    × (json_in rows ≡ Some options.json)
    × (options.progress ≡ is_set (codes "progress") rows)

-- a shell is to begin, to write beside a log, to bring logs in, or to compact
abbrev pub writes_beside : List Row → Bool
writes_beside rows =
    is_set (codes "begin") rows || is_set (codes "beside-log") rows
    || is_set (codes "recover") rows || is_some (word_in (codes "workers") rows)

-- `--read-only` excludes `--begin`, `--beside-log`, `--recover` and `--workers`
abbrev pub reads_only_in : List Row → Option Bool
reads_only_in rows =
    if is_set (codes "read-only") rows && writes_beside rows then None
    else Some (is_set (codes "read-only") rows)

-- the word names these benchmarks
abbrev pub AreNamed : Option Text → List Benchmark → Type 0
AreNamed None benchmarks = ⊥
AreNamed (Some word) benchmarks = AreBenchmarks word benchmarks

abbrev pub AreBenchOptions : List Row → BenchOptions → Type 0
AreBenchOptions rows options =
    AreNamed (word_in (codes "benchmarks") rows) options.benchmarks.items
    × IsNumberIn 1 10000000 (word_in (codes "num") rows) options.num
    × IsNumberIn 0 65536 (word_in (codes "value-size") rows) options.value_size
    × IsNumberIn 0 8 (word_in (codes "workers") rows) options.workers

-- a new value is what VALUE spells
abbrev pub IsNewValue : List Row → Option (List ℕ) → Type 0
IsNewValue rows None = ⊤
IsNewValue rows (Some value) = IsSpelled (form_in rows) (word_in (codes "VALUE") rows) value

abbrev pub IsKeyWrite : List Row → Write → Type 0
IsKeyWrite rows w = IsSpelled (form_in rows) (word_in (codes "KEY") rows) w.key
    × IsNewValue rows w.value

abbrev pub IsWrite : List Row → WritingCommand → Type 0
IsWrite rows (Ingest input options) =
    IsInput (word_in (codes "FILE") rows) input × AreIngestOptions rows options
IsWrite rows (WriteKey w options) = IsKeyWrite rows w × AreIngestOptions rows options
IsWrite rows (Clean options) = options.accepts_rest ≡ is_set (codes "accept-rest") rows

-- the request says what stands in the rows
abbrev pub Says : List Row → Request → Type 0
Says rows (Convert conversion input) = IsInput (word_in (codes "FILE") rows) input
Says rows (Look line) =
    (word_in (codes "DIR") rows ≡ Some line.path.now) × IsLook rows line.command
    × (line.form ≡ form_in rows) × (line.strict ≡ is_set (codes "strict") rows)
    × (line.logs ≡ is_set (codes "logs") rows)
    × (line.inflates ≡ is_set (codes "inflate") rows) × (quick_in rows ≡ Some line.quick)
    × (line.progress ≡ is_set (codes "progress") rows)
Says rows (Levels line) =
    (word_in (codes "DIR") rows ≡ Some line.path.now) × (line.form ≡ form_in rows)
    × (levels_output_in rows ≡ Some line.output) × (line.strict ≡ is_set (codes "strict") rows)
Says rows (WriteFolder line) =
    (word_in (codes "DIR") rows ≡ Some line.path.now) × IsWrite rows line.command
Says rows (Load line) =
    (word_in (codes "DIR") rows ≡ Some line.path.now)
    × IsInput (word_in (codes "FILE") rows) line.input × AreLoadOptions rows line.options
Says rows (Import line) = (word_in (codes "SRC") rows ≡ Some line.source.now)
    × (word_in (codes "DST") rows ≡ Some line.target.now)
    × (line.to_first_fault ≡ is_set (codes "to-first-fault") rows)
Says rows (Recover line) = (word_in (codes "DIR") rows ≡ Some line.path.now)
    × (line.to_first_fault ≡ is_set (codes "to-first-fault") rows)
Says rows (Repair path) = word_in (codes "DIR") rows ≡ Some path.now
Says rows (Compact line) =
    (word_in (codes "DIR") rows ≡ Some line.path.now)
    × AreWorkers (word_in (codes "workers") rows) line.options.workers
    × (line.options.accepts_rest ≡ is_set (codes "accept-rest") rows)
    × (line.options.progress ≡ is_set (codes "progress") rows) × IsRange rows line.options.range
Says rows (Script input) = IsInput (word_in (codes "FILE") rows) input
Says rows (Shell line) =
    (word_in (codes "DIR") rows ≡ Some line.path.now) × AreIngestOptions rows line.options
    × AreThreads (word_in (codes "workers") rows) line.workers
    × (line.bails ≡ is_set (codes "bail") rows)
    × (reads_only_in rows ≡ Some line.reads_only)
Says rows (Bench line) = (word_in (codes "DIR") rows ≡ Some line.path.now)
    × AreBenchOptions rows line.options

-- the word of `--wait`, where there is one, writes a number of seconds, from 1 to 3600
abbrev pub CanWait : Option Text → Type 0
CanWait None = ⊤
CanWait (Some word) = (n : ℕ) × IsNumberIn 1 3600 (Some word) n

-- The command that was found is the request's, the request says what its rows say, and `--wait`,
-- where it is there, has a number.
pub record IsAsked (found : Option (Text × List Row)) (request : Request) : Type 0 where
  pub name : Text
  pub rows : List Row
  pub is : found ≡ Some (name, rows)
  pub named : named name ≡ Some (name_of request)
  pub says : Says rows request
  pub waits : CanWait (word_in (codes "wait") rows)

-- ---- what words ask

-- The words are of the grammar, and what clap finds in them is the request.
abbrev pub Asks : Request → List Text → Type 0
Asks request words = (faults_in words ≡ []) × IsAsked (found_in words) request

-- They ask for none of the commands: for help, say, or there is a fault in them.
abbrev pub AskNothing : List Text → Type 0
AskNothing words = (request : Request) → Asks request words → ⊥

-- the word of an option writes a number from 1 to 3600; there is none where there is no option, or
-- where its word writes none of these, and then nothing is asked for
abbrev pub AreSeconds : Option Text → Option ℕ → Type 0
AreSeconds word None = (n : ℕ) → IsNumberIn 1 3600 word n → ⊥
AreSeconds word (Some n) = IsNumberIn 1 3600 word n

-- how the command that was found is done: by `--recover`, `--compare`, `--strict` and `--wait`
-- among its words
abbrev pub IsMannerIn : Option (Text × List Row) → Manner → Type 0
IsMannerIn None manner =
    manner ≡ record { recovers = false; compares = false; strict = false; waits = None }
IsMannerIn (Some (name, rows)) manner =
    (manner.recovers ≡ is_set (codes "recover") rows)
    × (manner.compares ≡ is_set (codes "compare") rows)
    × (manner.strict ≡ is_set (codes "strict") rows)
    × AreSeconds (word_in (codes "wait") rows) manner.waits

-- how the command that words ask for is done
abbrev pub IsMannerOf : List Text → Manner → Type 0
IsMannerOf words manner = IsMannerIn (found_in words) manner

-- Of which command `help` is asked by the word behind it: of none where there is no word. None
-- where it names no command.
abbrev pub topic_of : Option Text → Option (Option CommandName)
topic_of None = Some None
topic_of (Some word) = option_map Some (named word)

-- Of what `help` is asked: none where it is not the command that was found, or is asked of no
-- command.
abbrev pub topic_in : Option (Text × List Row) → Option (Option CommandName)
topic_in None = None
topic_in (Some (name, rows)) =
    if bytes_eq name (codes "help") then topic_of (word_in (codes "COMMAND") rows) else None

-- They ask for help or for the version: clap answers with that; or it is `help` that they name,
-- alone or of a command.
abbrev pub AskHelp : List Text → Type 0
AskHelp words =
    (IsAmong kind.DisplayHelp (faults_in words) ⊎ IsAmong kind.DisplayVersion (faults_in words))
    ⊎ ((faults_in words ≡ []) × (is_some (topic_in (found_in words)) ≡ true))

-- There is a fault: the words are not of the grammar, and it is not help or the version that they
-- ask for; or they are of the grammar, and a word spells no bytes or writes no number, or behind
-- `help` is no command.
abbrev pub HaveUsageFault : List Text → Type 0
HaveUsageFault words =
    ((faults_in words ≡ []) × (is_some (topic_in (found_in words)) ≡ false))
    ⊎ ((k : ErrorKind) × IsAmong k (faults_in words) × (k ≢ kind.DisplayHelp)
    × (k ≢ kind.DisplayVersion))

-- what words come to
abbrev pub IsLine : List Text → CommandLine → Type 0
IsLine words (Run request manner) = Asks request words × IsMannerOf words manner
IsLine words (Help text) = AskNothing words × AskHelp words
IsLine words (Bad text) = AskNothing words × HaveUsageFault words

-- ---- how the code reads them

-- the request of the command of this name that says what the rows say, or none where there is none
abbrev pub Reads : CommandName → List Row → Option Request → Type 0
Reads name rows (Some request) = (name_of request ≡ name) × Says rows request
Reads name rows None = (request : Request) → name_of request ≡ name → Says rows request → ⊥

-- a page of help
abbrev pub IsPage : CommandLine → Type 0
IsPage (Run request manner) = ⊥
IsPage (Help text) = ⊤
IsPage (Bad text) = ⊥

-- what is said where something was found that is no request: help where that is asked for
abbrev pub IsUnasked : Option (Text × List Row) → CommandLine → Type 0
IsUnasked found (Run request manner) = ⊥
IsUnasked found (Help text) = is_some (topic_in found) ≡ true
IsUnasked found (Bad text) = is_some (topic_in found) ≡ false

-- what is said where something was found
abbrev pub IsOf : Option (Text × List Row) → CommandLine → Type 0
IsOf found (Run request manner) = IsAsked found request × IsMannerIn found manner
IsOf found (Help text) = ((request : Request) → IsAsked found request → ⊥)
    × (is_some (topic_in found) ≡ true)
IsOf found (Bad text) = ((request : Request) → IsAsked found request → ⊥)
    × (is_some (topic_in found) ≡ false)

-- what an error of this kind comes to
abbrev pub IsOfKind : ErrorKind → CommandLine → Type 0
IsOfKind k (Run request manner) = ⊥
IsOfKind k (Help text) = (k ≡ kind.DisplayHelp) ⊎ (k ≡ kind.DisplayVersion)
IsOfKind k (Bad text) = (k ≢ kind.DisplayHelp) × (k ≢ kind.DisplayVersion)
