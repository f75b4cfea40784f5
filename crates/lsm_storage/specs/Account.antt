-- What a shelf keeps of what it was told, and how contracts see it (this project's rule).
use Rattle.std.specs.Prelude.{ℕ, List, [], ◌∷◌, length, Option, None, Some, Result, Ok, Err}
use Rattle.lsm_storage.specs.declared.account.Account.{Account}
use Rattle.lsm_shelf.specs.declared.shelf_fault.ShelfFault.{ShelfFault}
use Rattle.lsm_shelf.specs.declared.shelf_fault.ShelfFault.TheVariants.{OutOfMemory, Device}
use Rattle.lsm_shelf.specs.declared.shelf_fault.ShelfFault.TheVariants.{Missing, Taken}
use Rattle.lsm_shelf.specs.Told.{Told, Place, next_count}
use Rattle.lsm_storage.specs.Changes.{calls_in}

-- a number, or nothing
abbrev pub number_in : List ℕ → Option ℕ
number_in [] = None
number_in (number ∷ rest) = Some number

-- what follows a number, or nothing
abbrev pub list_in : List ℕ → Option (List ℕ)
list_in [] = None
list_in (mark ∷ numbers) = Some numbers

-- a number in front of bytes, or nothing
abbrev pub found_in : List ℕ → Option (ℕ × List ℕ)
found_in [] = None
found_in (number ∷ bytes) = Some (number, bytes)

abbrev pub told_in : Place → Account → Told
told_in p a = record {
  place = p;
  faults = a.faults;
  misses = a.misses;
  puts = a.puts.numbers;
  gone = a.gone.numbers;
  listed = list_in a.listed.numbers;
  manifest = number_in a.manifest.numbers;
  sent = a.sent.numbers;
  found = found_in a.found.numbers;
  starts = a.starts.numbers;
  written = a.written.numbers;
  forks = length a.forks.numbers;
  made = calls_in a.made.numbers;
}

-- the counts after this answer
abbrev pub counted_by : {T : Type 0} → Result T ShelfFault → Account → Account
counted_by (Ok v) a = a
counted_by (Err OutOfMemory) a = a
counted_by (Err Device) a = record a { faults = next_count a.faults }
counted_by (Err Missing) a = record a { misses = next_count a.misses }
counted_by (Err (Taken n)) a = record a { misses = next_count a.misses }
