-- Reading a log from left to right, with the first fault and its offset (this project's rule;
-- LevelDB's reader drops what is at fault).
use Rattle.std.specs.Prelude.{ℕ, zero, suc, ◌+◌, ◌-◌, ◌&&◌, ◌||◌, Bool, true, false, nat_lt, nat_le}
use Rattle.std.specs.Prelude.{◌==◌, if◌then◌else◌, List, [], ◌∷◌, ◌++◌, length, take, drop, Option}
use Rattle.std.specs.Prelude.{Some, None, Result, Ok, Err}
use Rattle.std.specs.Str.{bytes_eq}
use Rattle.lsm_manifest.specs.declared.log_fault.LogFault.{LogFault}
use Rattle.lsm_manifest.specs.declared.log_fault.LogFault.TheVariants.{LogChecksum, LogOrder}
use Rattle.lsm_manifest.specs.declared.log_fault.LogFault.TheVariants.{LogType}
use Rattle.lsm_manifest.specs.Log.{left, sum_bytes, size_of, kind_of, may_follow, ends}

-- What stands at a place: nothing whole (None), or kind, data and what follows. Kind 0 is a part
-- that is skipped.
abbrev pub LogPart : Type 0
LogPart = Option (ℕ × List ℕ × List ℕ)

abbrev pub skipped : ℕ → List ℕ → LogPart
skipped offset text = Some (0, [], drop (left offset) text)

-- zeros in a header's place
unfoldable pub filler_at : ℕ → Bool → List ℕ → Result LogPart LogFault
filler_at offset begun text =
    if begun then Err (LogOrder offset)
    else if nat_le (length text) (left offset) then Ok None
    else Ok (skipped offset text)

-- a fragment that lies within its block and the file
unfoldable pub checked_at : ℕ → List ℕ → ℕ → ℕ → Result LogPart LogFault
checked_at offset text size kind =
    if bytes_eq (take 4 text) (sum_bytes kind (take size (drop 7 text)))
    then if kind == 0 || nat_lt 4 kind then Err (LogType offset)
    else Ok (Some (kind, take size (drop 7 text), drop size (drop 7 text)))
    else Err (LogChecksum offset)

-- a header of this length and kind
unfoldable pub framed_at : ℕ → Bool → List ℕ → ℕ → ℕ → Result LogPart LogFault
framed_at offset begun text size kind =
    if kind == 0 && size == 0 then filler_at offset begun text
    else if nat_le (7 + size) (left offset) && nat_le (7 + size) (length text)
    then checked_at offset text size kind
    else if nat_le (length text) (left offset) then Ok None
    else Err (LogOrder offset)

-- what stands at a place
unfoldable pub found_at : ℕ → Bool → List ℕ → Result LogPart LogFault
found_at offset begun text =
    if nat_lt (length text) 7 then Ok None
    else if nat_lt (left offset) 7 then Ok (skipped offset text)
    else framed_at offset begun text (size_of text) (kind_of text)

-- a record, or none, and what follows it
abbrev pub Next : Type 0
Next = Option (List ℕ × List ℕ)

-- a fragment in its place: it ends its record, or the reading goes on with more data
abbrev pub placed : ℕ → Bool → List ℕ → ℕ → List ℕ → List ℕ → Result Next LogFault
    → Result Next LogFault
placed offset begun before kind body rest later =
    if may_follow begun before kind
    then (if ends kind then Ok (Some (before ++ body, rest)) else later)
    else Err (LogOrder offset)

abbrev pub on_found : ℕ → Bool → List ℕ → (Bool → List ℕ → List ℕ → Result Next LogFault)
    → Result LogPart LogFault → Result Next LogFault
on_found offset begun before later (Err e) = Err e
on_found offset begun before later (Ok None) = Ok None
on_found offset begun before later (Ok (Some x)) =
    if x.0 == 0 then later begun before x.2
    else placed offset begun before x.0 x.1 x.2 (later true (before ++ x.1) x.2)

-- the next record of a text that ends where total bytes end
unfoldable pub record_at : ℕ → ℕ → Bool → List ℕ → List ℕ → Result Next LogFault
record_at zero total begun before text = Ok None
record_at (suc count) total begun before text =
    on_found (total - length text) begun before (record_at count total) (found_at (total
    - length text) begun text)

-- the records, and how many bytes follow the last
abbrev pub Whole : Type 0
Whole = List (List ℕ) × ℕ

abbrev pub with_records : List (List ℕ) → Result Whole LogFault → Result Whole LogFault
with_records front (Ok later) = Ok (front ++ later.0, later.1)
with_records front (Err e) = Err e

abbrev pub on_next : List ℕ → (List ℕ → Result Whole LogFault) → Result Next LogFault
    → Result Whole LogFault
on_next text later (Err e) = Err e
on_next text later (Ok None) = Ok ([], length text)
on_next text later (Ok (Some x)) = with_records (x.0 ∷ []) (later x.1)

unfoldable pub records_at : ℕ → ℕ → List ℕ → Result Whole LogFault
records_at zero total text = Ok ([], length text)
records_at (suc count) total text =
    on_next text (records_at count total) (record_at (length text) total false [] text)

-- the records of a log and its rest, or the first fault
abbrev pub log_at : List ℕ → Result Whole LogFault
log_at bytes = records_at (length bytes) (length bytes) bytes
