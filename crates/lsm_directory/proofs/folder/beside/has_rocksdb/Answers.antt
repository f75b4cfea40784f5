use Rattle.std.proofs.Common.{string_bytes}
use Rattle.lsm_directory.specs.Beside.{IsOfRocksDb}
use Rattle.lsm_directory.proofs.BesideLaws.{among_at, none_all, none_more}
use Rattle.lsm_directory.proofs.folder.beside.has_rocksdb.Goals as goal

pub returns-then-is_of_rocksdb : goal.returns-then-is_of_rocksdb
returns-then-is_of_rocksdb c =
    among_at string_bytes IsOfRocksDb c.args.names.now c.loop-name.name-index c.name-item.result
    c.as_str.result.now c.loop-name-test.true c.name-item.is c.as_str.ensures.value
    c.if-is_of_rocksdb.ensures

pub loop-name-preserved : goal.loop-name-preserved
loop-name-preserved c =
    none_more string_bytes IsOfRocksDb c.args.names.now c.loop-name.name-index c.name-item.result
    c.as_str.result.now c.loop-name-test.true c.name-item.is c.as_str.ensures.value
    c.loop-name.invariant c.if-is_of_rocksdb.ensures

pub returns : goal.returns
returns c = none_all string_bytes IsOfRocksDb c.args.names.now c.loop-name.name-index
    c.loop-name-test.false c.loop-name.invariant
