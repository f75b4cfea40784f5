-- The directory of a shelf in memory (this project's rule).
use Rattle.std.specs.Prelude.{ℕ, List, Option, None, Some}
use Rattle.lsm_storage.specs.declared.memory.directory.Directory.{Directory}
use Rattle.lsm_storage.specs.declared.memory.directory.Manifest.{Manifest}

abbrev pub number_and_bytes : Option Manifest → Option (ℕ × List ℕ)
number_and_bytes None = None
number_and_bytes (Some m) = Some (m.number, m.bytes.items)

-- number and bytes of the manifest, if one was started
abbrev pub manifest_of : Directory → Option (ℕ × List ℕ)
manifest_of d = number_and_bytes d.manifest
