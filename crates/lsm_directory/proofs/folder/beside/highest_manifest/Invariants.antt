use Rattle.std.proofs.Common.{map, take, string_bytes}
use Rattle.lsm_directory.specs.Beside.{IsHighestManifest}
use Rattle.lsm_directory.proofs.folder.beside.highest_manifest.Given as goal

-- the highest so far
abbrev pub invariant-loop-name : goal.invariant-loop-name
invariant-loop-name l = IsHighestManifest (map string_bytes (take l.name-index l.names)) l.highest
