use Rattle.std.proofs.Common.{map, take, string_bytes}
use Rattle.lsm_directory.specs.Beside.{Among, IsOfRocksDb}
use Rattle.lsm_directory.proofs.folder.beside.has_rocksdb.Given as goal

-- none so far is such a one
abbrev pub invariant-loop-name : goal.invariant-loop-name
invariant-loop-name l = Among (map string_bytes (take l.name-index l.names)) IsOfRocksDb → ⊥
