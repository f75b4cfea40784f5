use Rattle.std.proofs.lemmas.Map.Text.{btree_map_updates_text}
use Rattle.lsm_folder.proofs.directory.Directory.remove.Goals as goal

pub returns-clause-names : goal.returns-clause-names
returns-clause-names c = btree_map_updates_text c.args.name.now c.args.self.now.names c.remove.new.self _ c.remove.ensures.updates
