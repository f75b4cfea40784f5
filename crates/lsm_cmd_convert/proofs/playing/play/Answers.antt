use Rattle.lsm_storage.specs.MemoryShelf.{memory_told}
use Rattle.lsm_cmd_convert.proofs.PlayOutcomes.{in_memory, uncreated}
use Rattle.lsm_cmd_convert.proofs.playing.play.Goals as goal

pub returns-clause-played : goal.returns-clause-played
returns-clause-played g c = in_memory c.play_as.result c.args.commands.now (memory_told c.in_ok-shelf.shelf) c.in_ok-shelf.ensures c.play_as.ensures.played

pub returns-clause-fault : goal.returns-clause-fault
returns-clause-fault g c = uncreated c.play_as.result (memory_told c.in_ok-shelf.shelf) c.in_ok-shelf.ensures c.play_as.ensures.fault
