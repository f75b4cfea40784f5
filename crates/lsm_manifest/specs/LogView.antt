-- What the readers of a log return, as reading on lists gives it.
use Rattle.std.specs.Prelude.{ℕ, Bool, true, false, List, [], Some, None, Result}
use Rattle.lsm_codec.specs.Gives as answer
use Rattle.lsm_manifest.specs.declared.log_fault.LogFault.{LogFault}
use Rattle.lsm_manifest.specs.declared.log_fault.LogFault.TheVariants.{OutOfMemory, LogChecksum}
use Rattle.lsm_manifest.specs.declared.log_fault.LogFault.TheVariants.{LogOrder, LogType}
use Rattle.lsm_manifest.specs.declared.fragment.FragmentType.{FragmentType}
use Rattle.lsm_manifest.specs.declared.fragment.FragmentType.TheVariants.{Full, First, Middle, Last}
use Rattle.lsm_manifest.specs.declared.log_part.LogPart.{LogPart as Held}
use Rattle.lsm_manifest.specs.declared.log_part.LogPart.TheVariants as held
use Rattle.lsm_manifest.specs.declared.log.Log.{Log}
use Rattle.lsm_manifest.specs.LogReading.{LogPart}

abbrev pub is_memory : LogFault → Bool
is_memory OutOfMemory = true
is_memory (LogChecksum offset) = false
is_memory (LogOrder offset) = false
is_memory (LogType offset) = false

-- The fault is the one that reading gives, unless memory ran out.
abbrev pub Fails : {Y : Type 0} → LogFault → Result Y LogFault → Type 0
Fails fault read = answer.Fails is_memory fault read

-- What was returned is what reading gives, unless memory ran out.
abbrev pub Gives : {X Y : Type 0} → (X → Y) → Result X LogFault → Result Y LogFault → Type 0
Gives see result read = answer.Gives is_memory see result read

-- the byte of a fragment's type
abbrev pub type_byte : FragmentType → ℕ
type_byte Full = 1
type_byte First = 2
type_byte Middle = 3
type_byte Last = 4

-- what stands at a place, without where it lies in memory
abbrev pub found_of : Held → LogPart
found_of held.End = None
found_of (held.Skipped rest) = Some (0, [], rest.now)
found_of (held.Fragment kind body rest) = Some (type_byte kind, body.now, rest.now)

abbrev pub seen : Log → List (List ℕ) × ℕ
seen log = (log.records, log.rest)
